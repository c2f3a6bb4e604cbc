use Rattle.std.proofs.Common.{pos, ◌+ℤ◌, arith}
use Rattle.lists.proofs.Numbers.{longer, upward_more, numbered}
use Rattle.lists.proofs.ranges.range.Goals as goal
use Rattle.std.proofs.lemmas.Int.{ints}

pub returns-then-end-start-gt-MOST_NUMBERS : goal.returns-then-end-start-gt-MOST_NUMBERS
returns-then-end-start-gt-MOST_NUMBERS c = longer 255 c.args.first (c.args.last +ℤ pos 1) (omega (arith, ints))

pub loop-number-preserved : goal.loop-number-preserved
loop-number-preserved c = upward_more _ _ _ _ _ _ _ c.loop-number.invariant (omega (arith, ints)) (omega (arith, ints)) (omega (arith, ints)) c.in_ok-push.ensures.items

pub returns : goal.returns
returns c = let w = c.loop-number.invariant.within in numbered _ _ _ _ _ _ c.loop-number.invariant (omega (arith, ints)) (omega (arith, ints)) (omega (arith, ints))
