use Rattle.lists.proofs.Numbers.{Upward}
use Rattle.lists.proofs.ranges.range.Given as goal

abbrev pub invariant-loop-number : goal.invariant-loop-number
invariant-loop-number l = Upward l.start l.end l.number l.list.items
