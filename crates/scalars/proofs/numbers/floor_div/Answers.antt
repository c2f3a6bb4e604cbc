use Rattle.std.proofs.Common.{◌≡◌, true, false, pos, ◌-ℤ◌, inl, w64, to_z, of_z, rules}
use lib.Signed.{quot_z, rem_z}
use Rattle.scalars.proofs.Floors.{one_way, truncated, lowered, lowered_fits, no_quotient, has_quotient, quotient_none, quotient_some}
use Rattle.scalars.proofs.numbers.floor_div.Goals as goal
use Rattle.scalars.specs.Numbers.{opposed}
use Rattle.std.proofs.lemmas.Int.{to_z-of_z}

pub returns-in_err-quotient : goal.returns-in_err-quotient
returns-in_err-quotient c =
    let a = c.args.a in
    let b = c.args.b in
    let f = c.ranges.a in
    let g = c.ranges.b in
    let p = quotient_none a b (no_quotient a b f g (simp to_z-of_z at c.in_err-quotient.ensures)) in
    rw c.from_residual.ensures (record { law = p.0; unique = one_way a b; bounds = p.1 })

pub overflow_sub-result : goal.overflow_sub-result
overflow_sub-result c =
    let a = c.args.a in
    let b = c.args.b in
    let f = c.ranges.a in
    let g = c.ranges.b in
    let x = simp to_z-of_z at c.in_ok-quotient.ensures in
    let n = has_quotient a b x.0.0 x.0.1 in
    let e : to_z w64 (of_z w64 c.in_ok-quotient.quotient) ≡ quot_z a b = search rules in
    lowered_fits a b _ f x.0.1 (λ i. n (inl i)) (search rules) e

pub returns-then-are_opposed : goal.returns-then-are_opposed
returns-then-are_opposed c =
    let a = c.args.a in
    let b = c.args.b in
    let f = c.ranges.a in
    let g = c.ranges.b in
    let x = simp to_z-of_z at c.in_ok-quotient.ensures in
    let n = has_quotient a b x.0.0 x.0.1 in
    let o : opposed (rem_z a b) b ≡ true = search rules in
    let e : to_z w64 (of_z w64 (to_z w64 (of_z w64 c.in_ok-quotient.quotient) -ℤ pos 1)) ≡ quot_z a b -ℤ pos 1 = search rules in
    let p = quotient_some a b _ _ _ n (lowered a b (λ i. n (inl i)) o) e in
    record { law = p.0; unique = one_way a b; bounds = p.1 }

pub returns-else-are_opposed : goal.returns-else-are_opposed
returns-else-are_opposed c =
    let a = c.args.a in
    let b = c.args.b in
    let f = c.ranges.a in
    let g = c.ranges.b in
    let x = simp to_z-of_z at c.in_ok-quotient.ensures in
    let n = has_quotient a b x.0.0 x.0.1 in
    let o : opposed (rem_z a b) b ≡ false = search rules in
    let e : to_z w64 (of_z w64 c.in_ok-quotient.quotient) ≡ quot_z a b = search rules in
    let p = quotient_some a b _ _ _ n (truncated a b (λ i. n (inl i)) o) e in
    record { law = p.0; unique = one_way a b; bounds = p.1 }
