use Rattle.std.proofs.Common.{◌-◌, length}
use Rattle.notation.proofs.Quoting.{Reading}
use Rattle.notation.proofs.texts.unquote.Given as goal

abbrev pub invariant-loop-code : goal.invariant-loop-code
invariant-loop-code l = Reading l.s l.at l.codes.items l.i

abbrev pub decreases-loop-code : goal.decreases-loop-code
decreases-loop-code l = length l.s - l.i
