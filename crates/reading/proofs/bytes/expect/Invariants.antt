use Rattle.std.proofs.Common.{◌+◌, take}
use Rattle.reading.specs.Bytes.{Stands}
use Rattle.reading.proofs.bytes.expect.Given as goal

-- the first k bytes of the mark stand at the place
abbrev pub invariant-loop-k : goal.invariant-loop-k
invariant-loop-k l = Stands l.s l.at (take l.k l.mark) (l.at + l.k)
