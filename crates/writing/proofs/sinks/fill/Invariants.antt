use Rattle.std.proofs.Common.{◌≡◌, drop}
use Rattle.std.specs.List.{fold}
use Rattle.writing.specs.declared.sinks.Area.{Area}
use Rattle.writing.specs.Sinks.{filled, holding}
use Rattle.writing.proofs.sinks.fill.Given as goal

abbrev pub invariant-loop-byte : goal.invariant-loop-byte
invariant-loop-byte l = (a : Area) → fold filled (holding a l.area l.next) (drop l.byte-index l.bytes) ≡ fold filled (holding a l.initial.area l.initial.next) l.bytes
