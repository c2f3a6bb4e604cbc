use Rattle.std.proofs.Common.{◌≡◌, ℕ, ◌-◌, List, length}
use Rattle.notation.proofs.Quoting.{Reading}
use Rattle.notation.proofs.texts.text_at.Given as goal

abbrev pub invariant-loop-end : goal.invariant-loop-end
invariant-loop-end l = (t : List ℕ) × Reading l.s l.at t l.i × (l.count ≡ length t)

abbrev pub decreases-loop-end : goal.decreases-loop-end
decreases-loop-end l = length l.s - l.i
