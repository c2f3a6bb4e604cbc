use Rattle.std.proofs.Common.{◌≡◌, true, false, pos, ◌+ℤ◌, ap, w64, to_z, of_z, rules}
use lib.Signed.{rem_z}
use Rattle.scalars.proofs.Floors.{one_way, truncated, lowered, modulus_some}
use Rattle.scalars.proofs.numbers.floor_mod.Goals as goal
use Rattle.scalars.specs.Numbers.{opposed}

pub returns-then-are_opposed : goal.returns-then-are_opposed
returns-then-are_opposed c =
    let a = c.args.a in
    let b = c.args.b in
    let n : b ≡ pos 0 → ⊥ = λ e. c.if-b-eq0.false (ap (of_z w64) e) in
    let o : opposed (rem_z a b) b ≡ true = search rules in
    let e : to_z w64 (of_z w64 (to_z w64 (of_z w64 c.wrapping_rem-remainder.result) +ℤ to_z w64 (of_z w64 b))) ≡ rem_z a b +ℤ b = search rules in
    let p = modulus_some a b _ _ _ n (lowered a b n o) e in
    record { law = p.0; unique = one_way a b; bounds = p.1 }

pub returns-else-are_opposed : goal.returns-else-are_opposed
returns-else-are_opposed c =
    let a = c.args.a in
    let b = c.args.b in
    let n : b ≡ pos 0 → ⊥ = λ e. c.if-b-eq0.false (ap (of_z w64) e) in
    let o : opposed (rem_z a b) b ≡ false = search rules in
    let e : to_z w64 (of_z w64 c.wrapping_rem-remainder.result) ≡ rem_z a b = search rules in
    let p = modulus_some a b _ _ _ n (truncated a b n o) e in
    record { law = p.0; unique = one_way a b; bounds = p.1 }
