use Rattle.std.proofs.Common.{ℕ, ◌+◌, ◌-◌, ◌≤◌, max, length}
use Rattle.type_notation.specs.Shapes.{Nests}
use Rattle.type_notation.proofs.check.+deepest.Given as goal

abbrev pub decreases-deepest : goal.decreases-deepest
decreases-deepest l = length l.s.now - l.at

-- however deep the types still to come nest, all nest as deep as they and those before
abbrev pub invariant-loop : goal.invariant-loop
invariant-loop l = record {
  low : l.nesting.depth + l.at ≤ l.nesting.end;
  high : l.at ≤ length l.s → l.nesting.end ≤ length l.s;
  goes : (deep last : ℕ) → Nests l.s l.nesting.end (l.count - l.counter) deep last → Nests l.s l.at l.count (max l.nesting.depth deep) last;
}
