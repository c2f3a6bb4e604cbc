-- The digits of a number, one by one.
use Rattle.std.proofs.Common.{◌≡◌, ℕ, zero, suc, ◌+◌, ◌*◌, ◌/◌, ◌%◌, ◌^◌, ◌<◌, ◌≤◌, [], ◌∷◌, ◌++◌, length, refl, ap, ◌∙◌, arith, length-append}
use Rattle.notation.proofs.Counting.{nat_one, nat_more}
use Rattle.notation.specs.Numbers.{nat}
use Rattle.std.proofs.lemmas.Int.Digits.{length-digits_of-le}
use Rattle.std.proofs.lemmas.List.{length-map}
use Rattle.std.specs.Int.Digits.{digits_of}

pub nat_last : (n : ℕ) → n < 10 → nat n ≡ (48 + n) ∷ []
nat_last zero h = refl
nat_last (suc n) h = nat_one (suc n) (omega arith) h

pub nat_front : (n : ℕ) → 10 ≤ n → nat n ≡ nat (n / 10) ++ ((48 + n % 10) ∷ [])
nat_front n h =
    let e : n ≡ n / 10 * 10 + n % 10 = omega arith in
    ap nat e ∙ nat_more (n / 10) (n % 10) (omega arith) (omega arith)

pub nat_long : (n : ℕ) → 10 ≤ n → length (nat n) ≡ length (nat (n / 10)) + 1
nat_long n h = ap length (nat_front n h) ∙ length-append (nat (n / 10)) ((48 + n % 10) ∷ [])

-- a word of 32 bits has at most ten digits
pub nat_ten : (n : ℕ) → n < 2 ^ 32 → length (nat n) ≤ 10
nat_ten zero h = omega arith
nat_ten (suc n) h =
    let a = length-map (digits_of 10 (suc n)) (λ d. 48 + d) in
    let b = length-digits_of-le 10 10 (suc n) (omega arith) (omega arith) in
    omega arith
