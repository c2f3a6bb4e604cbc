use Rattle.std.proofs.Common.{arith, rules}
use Rattle.std.proofs.lemmas.Int.{ints}
use Rattle.notation.proofs.Counting.{minus_no_digit, minus_zero, minus_number}
use Rattle.notation.proofs.numbers.negative_at.Goals as goal

pub returns-in-None : goal.returns-in-None
returns-in-None c = search (rules, minus_no_digit)

pub returns-in-None-2 : goal.returns-in-None-2
returns-in-None-2 c = (omega arith, λ h. omega (arith, c.requires.0), minus_zero _ _ _ _ c.requires.1 c.in-None.ensures.1 (search rules))

pub returns-in-Some : goal.returns-in-Some
returns-in-Some c =
    let e = c.digits_from-natural.ensures in
    let low = e.got.so.positive in
    let high = e.got.so.small in
    (omega arith, e.high, minus_number _ _ _ _ _ _ _ _ c.requires.1 c.in-Some.ensures.1 (search rules) e.got (omega (arith, ints)))
