-- Decimal digits: a number is written in one way.
use Rattle.std.proofs.Common.{◌≡◌, ℕ, zero, suc, ◌+◌, ◌*◌, ◌/◌, ◌%◌, ◌<◌, ◌≤◌, List, [], ◌∷◌, ◌++◌, map, get_or, ℤ, pos, negsuc, sym, refl, ap, ◌∙◌, arith}
use Rattle.std.specs.Int.Digits.{digits_of, AllBelowBase}
use Rattle.std.proofs.lemmas.Int.Digits.{digits_of_step, all_below_base_digits_of, first_digits_of, same_from_digits_of}
use Rattle.std.specs.List.{AllByRecursion}
use Rattle.std.proofs.lemmas.List.{map-append}
use Rattle.notation.specs.Digits.{Digit, NoDigit}
use Rattle.notation.specs.Numbers.{nat, int}

-- digits as bytes
abbrev pub chars : List ℕ → List ℕ
chars ds = map (λ d. 48 + d) ds

-- one more digit
pub digit_more : (n d : ℕ) → 0 < n → d < 10 → chars (digits_of 10 (n * 10 + d)) ≡ chars (digits_of 10 n) ++ ((48 + d) ∷ [])
digit_more n d h k =
    let p : (n * 10 + d) / 10 ≡ n = omega arith in
    let q : (n * 10 + d) % 10 ≡ d = omega arith in
    ap chars (digits_of_step 10 (n * 10 + d) (omega arith) (omega arith)) ∙ rw (p, q) (map-append (λ d. 48 + d) (digits_of 10 n) (d ∷ []))

chars_digits : (ds : List ℕ) → AllBelowBase 10 ds → AllByRecursion Digit (chars ds)
chars_digits [] h = tt
chars_digits (d ∷ ds) h = ((omega (arith, h.0), omega (arith, h.0)), chars_digits ds h.1)

pub nat_digits : (n : ℕ) → AllByRecursion Digit (nat n)
nat_digits zero = ((omega arith, omega arith), tt)
nat_digits (suc n) = chars_digits (digits_of 10 (suc n)) (all_below_base_digits_of 10 (suc n) (omega arith))

-- two runs of digits, each followed by no digit
pub digits_same : (xs ys r q : List ℕ) → AllByRecursion Digit xs → AllByRecursion Digit ys → NoDigit r → NoDigit q → xs ++ r ≡ ys ++ q → (xs ≡ ys) × (r ≡ q)
digits_same [] [] r q h k m n e = (refl, e)
digits_same [] (y ∷ ys) [] q h k m n e = absurd (cc)
digits_same [] (y ∷ ys) (c ∷ r) q h k m n e = let z : y ≡ c = cc in absurd (m (omega arith, omega arith))
digits_same (x ∷ xs) [] r [] h k m n e = absurd (cc)
digits_same (x ∷ xs) [] r (c ∷ q) h k m n e = let z : x ≡ c = cc in absurd (n (omega arith, omega arith))
digits_same (x ∷ xs) (y ∷ ys) r q h k m n e =
    let t : xs ++ r ≡ ys ++ q = cc in
    let p = digits_same xs ys r q h.1 k.1 m n t in
    let a : x ≡ y = cc in
    let b = p.0 in
    (cc, p.1)

chars_same : (xs ys : List ℕ) → chars xs ≡ chars ys → xs ≡ ys
chars_same [] [] e = refl
chars_same [] (y ∷ ys) e = absurd (cc)
chars_same (x ∷ xs) [] e = absurd (cc)
chars_same (x ∷ xs) (y ∷ ys) e =
    let t : chars xs ≡ chars ys = cc in
    let a : 48 + x ≡ 48 + y = cc in
    let b : x ≡ y = omega arith in
    let p = chars_same xs ys t in
    cc

-- a positive number does not begin with 0, and is not empty
pub nat_first : (n : ℕ) → 0 < n → (c : ℕ) × (cs : List ℕ) × (nat n ≡ c ∷ cs) × (48 < c) × (c ≤ 57)
nat_first zero h = absurd (omega arith)
nat_first (suc n) h = go (digits_of 10 (suc n)) (first_digits_of 10 (suc n) (omega arith) h) (all_below_base_digits_of 10 (suc n) (omega arith))
  where
    go : (ds : List ℕ) → 0 < get_or ds 0 0 → AllBelowBase 10 ds → (c : ℕ) × (cs : List ℕ) × (chars ds ≡ c ∷ cs) × (48 < c) × (c ≤ 57)
    go [] p q = absurd (omega arith)
    go (d ∷ ds) p q = (48 + d, chars ds, refl, omega arith, omega (arith, q.0))

pub nat_same : (m n : ℕ) → nat m ≡ nat n → m ≡ n
nat_same zero zero e = refl
nat_same zero (suc n) e = let p = nat_first (suc n) (omega arith) in let z : 48 ≡ p.0 = cc p.2 in omega (arith, p.3)
nat_same (suc m) zero e = let p = nat_first (suc m) (omega arith) in let z : 48 ≡ p.0 = cc p.2 in omega (arith, p.3)
nat_same (suc m) (suc n) e = same_from_digits_of 10 (suc m) (suc n) (omega arith) (chars_same (digits_of 10 (suc m)) (digits_of 10 (suc n)) e)

pub nat_unique : (m n : ℕ) (r q : List ℕ) → NoDigit r → NoDigit q → nat m ++ r ≡ nat n ++ q → (m ≡ n) × (r ≡ q)
nat_unique m n r q h k e =
    let p = digits_same (nat m) (nat n) r q (nat_digits m) (nat_digits n) h k e in
    (nat_same m n p.0, p.1)

pub nat_head : (n : ℕ) → (c : ℕ) × (cs : List ℕ) × (nat n ≡ c ∷ cs) × Digit c
nat_head zero = (48, [], refl, (omega arith, omega arith))
nat_head (suc n) = let p = nat_first (suc n) (omega arith) in (p.0, p.1, p.2, (omega (arith, p.3), p.4))

minus_not : (n m : ℕ) (r q : List ℕ) → nat n ++ r ≡ 45 ∷ (nat m ++ q) → ⊥
minus_not n m r q e =
    let p = nat_head n in
    let f = p.2 in
    let z : p.0 ≡ 45 = cc in
    omega (arith, p.3.0)

pub int_unique : (x y : ℤ) (r q : List ℕ) → NoDigit r → NoDigit q → int x ++ r ≡ int y ++ q → (x ≡ y) × (r ≡ q)
int_unique (pos m) (pos n) r q h k e = let p = nat_unique m n r q h k e in (ap pos p.0, p.1)
int_unique (pos m) (negsuc n) r q h k e = absurd (minus_not m (suc n) r q e)
int_unique (negsuc m) (pos n) r q h k e = absurd (minus_not n (suc m) q r (sym e))
int_unique (negsuc m) (negsuc n) r q h k e =
    let t : nat (suc m) ++ r ≡ nat (suc n) ++ q = cc in
    let p = nat_unique (suc m) (suc n) r q h k t in
    let z : m ≡ n = omega (arith, p.0) in
    (ap negsuc z, p.1)
