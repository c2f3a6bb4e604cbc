use Rattle.std.proofs.Common.{◌-◌, length}
use Rattle.type_notation.proofs.check.type_end.Given as goal
use Rattle.type_notation.proofs.Dues.{Due}

abbrev pub invariant-loop-due : goal.invariant-loop-due
invariant-loop-due l = Due l.s l.i l.due

abbrev pub decreases-loop-due : goal.decreases-loop-due
decreases-loop-due l = length l.s - l.i
