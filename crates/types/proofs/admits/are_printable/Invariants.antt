use Rattle.std.proofs.Common.{◌≡◌, drop}
use Rattle.types.specs.Types.{printables}
use Rattle.types.proofs.admits.are_printable.Given as goal

abbrev pub invariant-loop-c : goal.invariant-loop-c
invariant-loop-c l = printables (drop l.c-index l.codes) ≡ printables l.codes
