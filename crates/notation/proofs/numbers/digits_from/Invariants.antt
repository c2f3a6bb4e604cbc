use Rattle.std.proofs.Common.{◌≡◌, ◌+◌}
use Rattle.notation.proofs.Counting.{Going}
use Rattle.notation.proofs.numbers.digits_from.Given as goal

abbrev pub invariant-loop-code : goal.invariant-loop-code
invariant-loop-code l = (l.end ≡ l.at + l.code-index) × Going l.s l.at l.first l.value l.fits l.end
