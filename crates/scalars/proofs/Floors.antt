-- Division with the quotient rounded down, from that with the quotient rounded toward 0.
use borrow.Author.Differences.{up, down, same_in}
use Rattle.std.proofs.Common.{◌≡◌, ℕ, zero, suc, ◌+◌, ◌-◌, ◌*◌, ◌/◌, ◌%◌, ◌^◌, ◌<◌, ◌≤◌, true, false, leb, ℤ, pos, negsuc, ◌+ℤ◌, ◌-ℤ◌, ◌*ℤ◌, neg_ℤ, nat_abs, ◌<ℤ◌, Some, None, sym, refl, ap, ◌∙◌, subst, inl, inr, ⊎_elim, mod-lt, add-mul, mul-zero, div-le_self, div-one, arith, w64, SFits, of_z}
use native.Mathlib.Nat.{div-add-mod, div-lt_self}
use lib.IntN.{pred_ℤ, *ℤ_comm, pred_ℤ-*ℤ, -ℤ_one}
use lib.Signed.{lt_z, quot_z, rem_z}
use Rattle.scalars.specs.Numbers.{Floored, OneWay, NoQuotient, Quotient, Modulus, KeepsBounds, opposed}
use Rattle.std.proofs.lemmas.Nat.{div-mul-add, mod-mul-add}
use Rattle.std.proofs.lemmas.Int.{ints}
use Rattle.std.proofs.lemmas.Bool.{cases_lt, le-leb, leb-true, true≢false}
use Rattle.types.specs.Types.{bounded}

-- ---- one way only

-- a number has one quotient by n and one remainder
one_way_at : (n x y r s : ℕ) → r < n → s < n → x * n + r ≡ y * n + s → (x ≡ y) × (r ≡ s)
one_way_at n x y r s h k e =
    (sym (div-mul-add x n r h) ∙ ap (λ i. i / n) e ∙ div-mul-add y n s k, sym (mod-mul-add x n r h) ∙ ap (λ i. i % n) e ∙ mod-mul-add y n s k)

one_way_above : (n : ℕ) (a q q' m m' : ℤ) → 0 < n → Floored a (pos n) q m → Floored a (pos n) q' m' → (q ≡ q') × (m ≡ m')
one_way_above n a q q' (pos k) (pos l) h f g =
    let i = f.positive (omega (arith, ints)) in
    let j = g.positive (omega (arith, ints)) in
    let e : (up q + down q') * n + k ≡ (up q' + down q) * n + l = omega (arith, ints, add-mul (up q) (down q') n, add-mul (up q') (down q) n) in
    let p = one_way_at n (up q + down q') (up q' + down q) k l (omega (arith, ints)) (omega (arith, ints)) e in
    (same_in q q' p.0, ap pos p.1)
one_way_above n a q q' (pos k) (negsuc l) h f g = let j = g.positive (omega (arith, ints)) in absurd (omega (arith, ints))
one_way_above n a q q' (negsuc k) m' h f g = let i = f.positive (omega (arith, ints)) in absurd (omega (arith, ints))

-- with the signs of all but the quotient turned
flipped : (n : ℕ) (a q m : ℤ) → Floored a (negsuc n) q m → Floored (neg_ℤ a) (pos (suc n)) q (neg_ℤ m)
flipped n a q m f =
    let i = f.negative (omega (arith, ints)) in
    record {
      whole = omega (arith, ints);
      positive = λ _. (omega (arith, ints), omega (arith, ints));
      negative = λ h. absurd (omega (arith, ints));
    }

pub one_way : (a b : ℤ) → OneWay a b
one_way a (pos zero) h q q' m m' f g = absurd (h refl)
one_way a (pos (suc n)) h q q' m m' f g = one_way_above (suc n) a q q' m m' (omega arith) f g
one_way a (negsuc n) h q q' m m' f g =
    let p = one_way_above (suc n) (neg_ℤ a) q q' (neg_ℤ m) (neg_ℤ m') (omega arith) (flipped n a q m f) (flipped n a q' m' g) in
    (p.0, omega (arith, ints))

-- ---- from the quotient rounded toward 0

divisor : (b : ℤ) → (b ≡ pos 0 → ⊥) → 0 < nat_abs b
divisor (pos zero) h = absurd (h refl)
divisor (pos (suc n)) h = omega arith
divisor (negsuc n) h = omega arith

times_neg : (y k : ℕ) → (pos y *ℤ neg_ℤ (pos k) ≡ neg_ℤ (pos (y * k))) × (negsuc y *ℤ neg_ℤ (pos k) ≡ pos (suc y * k))
times_neg y zero = (omega (arith, ints, mul-zero y), omega (arith, ints, mul-zero (suc y)))
times_neg y (suc k) = (refl, refl)

quot_rem : (a b : ℤ) → a ≡ b *ℤ quot_z a b +ℤ rem_z a b
quot_rem (pos x) (pos y) = ap pos (sym (div-add-mod x y))
quot_rem (pos x) (negsuc y) = omega (arith, ints, times_neg y (x / suc y), div-add-mod x (suc y))
quot_rem (negsuc x) (pos y) = omega (arith, ints, times_neg y (suc x / y), div-add-mod (suc x) y)
quot_rem (negsuc x) (negsuc y) = omega (arith, ints, div-add-mod (suc x) (suc y))

-- the remainder is nearer to 0 than the divisor
rem_near : (a b : ℤ) → 0 < nat_abs b → nat_abs (rem_z a b) < nat_abs b
rem_near (pos x) b h = mod-lt x h
rem_near (negsuc x) b h = omega (arith, ints, mod-lt (suc x) h)

-- a remainder is opposed to its divisor where it is on the other side of 0
opposed_above : (m b : ℤ) → pos 0 <ℤ b → opposed m b ≡ lt_z m (pos 0)
opposed_above m b h = grind (arith, ints)

opposed_below : (m b : ℤ) → b <ℤ pos 0 → opposed m b ≡ lt_z (pos 0) m
opposed_below m b h = grind (arith, ints)

pub truncated : (a b : ℤ) → (b ≡ pos 0 → ⊥) → opposed (rem_z a b) b ≡ false → Floored a b (quot_z a b) (rem_z a b)
truncated a b h o =
    let n = rem_near a b (divisor b h) in
    record {
      whole = quot_rem a b;
      positive = λ p. let t = sym (opposed_above (rem_z a b) b p) ∙ o in (omega (arith, ints), omega (arith, ints));
      negative = λ p. let t = sym (opposed_below (rem_z a b) b p) ∙ o in (omega (arith, ints), omega (arith, ints));
    }

-- with a quotient lower by 1, the divisor goes to the modulus
shifted : (b q m : ℤ) → b *ℤ q +ℤ m ≡ b *ℤ (q -ℤ pos 1) +ℤ (m +ℤ b)
shifted b q m =
    let e : b *ℤ (q -ℤ pos 1) ≡ b *ℤ q -ℤ b = ap (λ p. b *ℤ p) (-ℤ_one q) ∙ *ℤ_comm b (pred_ℤ q) ∙ pred_ℤ-*ℤ q b ∙ ap (λ p. p -ℤ b) (*ℤ_comm q b) in
    omega (arith, ints)

pub lowered : (a b : ℤ) → (b ≡ pos 0 → ⊥) → opposed (rem_z a b) b ≡ true → Floored a b (quot_z a b -ℤ pos 1) (rem_z a b +ℤ b)
lowered a b h o =
    let n = rem_near a b (divisor b h) in
    record {
      whole = quot_rem a b ∙ shifted b (quot_z a b) (rem_z a b);
      positive = λ p. let t = sym (opposed_above (rem_z a b) b p) ∙ o in (omega (arith, ints), omega (arith, ints));
      negative = λ p. let t = sym (opposed_below (rem_z a b) b p) ∙ o in (omega (arith, ints), omega (arith, ints));
    }

-- ---- within the bounds

bounded_nearer : (y z : ℤ) → nat_abs z ≤ nat_abs y → bounded y ≡ true → bounded z ≡ true
bounded_nearer y z h k = is_bounded z ∙ le-leb (nat_abs z) 999999999 (omega (arith, leb-true (nat_abs y) 999999999 (sym (is_bounded y) ∙ k)))
  where
    is_bounded : (z : ℤ) → bounded z ≡ leb (nat_abs z) 999999999
    is_bounded (pos n) = refl
    is_bounded (negsuc n) = refl

-- the modulus is nearer to 0 than the divisor, and the quotient than the number divided
modulus_nearer : (a b q m : ℤ) → 0 < nat_abs b → Floored a b q m → nat_abs m ≤ nat_abs b
modulus_nearer a (pos zero) q m h f = absurd (omega arith)
modulus_nearer a (pos (suc n)) q m h f = let p = f.positive (omega (arith, ints)) in omega (arith, ints)
modulus_nearer a (negsuc n) q m h f = let p = f.negative (omega (arith, ints)) in omega (arith, ints)

quotient_nearer : (a b q m : ℤ) → 0 < nat_abs b → Floored a b q m → nat_abs q ≤ nat_abs a
quotient_nearer a (pos zero) q m h f = absurd (omega arith)
quotient_nearer a (pos (suc n)) (pos k) m h f = let p = f.positive (omega (arith, ints)) in omega (arith, ints)
quotient_nearer a (pos (suc n)) (negsuc k) m h f = let p = f.positive (omega (arith, ints)) in omega (arith, ints)
quotient_nearer a (negsuc n) (pos k) m h f = let p = f.negative (omega (arith, ints)) in omega (arith, ints)
quotient_nearer a (negsuc n) (negsuc k) m h f = let p = f.negative (omega (arith, ints)) in omega (arith, ints)

-- ---- where there is a quotient

pub no_quotient : (a b : ℤ) → SFits w64 a → SFits w64 b → ((0 < of_z w64 b) × SFits w64 (quot_z a b) → ⊥) → NoQuotient a b
no_quotient a (pos zero) f g h = inl refl
no_quotient (pos x) (pos (suc y)) f g h = absurd (h (omega arith, omega (arith, ints, div-le_self x (suc y))))
no_quotient (negsuc x) (pos (suc y)) f g h = absurd (h (omega arith, omega (arith, ints, div-le_self (suc x) (suc y))))
no_quotient (pos x) (negsuc y) f g h = absurd (h (omega (arith, ints), omega (arith, ints, div-le_self x (suc y))))
no_quotient (negsuc x) (negsuc zero) f g h = ⊎_elim (λ l. absurd (h (omega arith, omega (arith, ints, div-one (suc x))))) (λ l. inr (omega (arith, ints), refl)) (cases_lt x (2 ^ 63 - 1))
no_quotient (negsuc x) (negsuc (suc y)) f g h =
    absurd (h (omega (arith, ints), omega (arith, ints, div-lt_self {n = suc x} {k = suc (suc y)} (omega arith) (omega arith))))

pub has_quotient : (a b : ℤ) → 0 < of_z w64 b → SFits w64 (quot_z a b) → NoQuotient a b → ⊥
has_quotient a b h f (inl e) = let i = ap (of_z w64) e in omega arith
has_quotient a b h f (inr e) = let i : quot_z a b ≡ pos (2 ^ 63) = ap (λ z. quot_z z b) e.0 ∙ ap (quot_z (negsuc (2 ^ 63 - 1))) e.1 in omega (arith, ints)

pub lowered_fits : (a b q : ℤ) → SFits w64 a → SFits w64 (quot_z a b) → (b ≡ pos 0 → ⊥) → opposed (rem_z a b) b ≡ true → q ≡ quot_z a b → SFits w64 (q -ℤ pos 1)
lowered_fits a b q f g h o e =
    let n = quotient_nearer a b (quot_z a b -ℤ pos 1) (rem_z a b +ℤ b) (divisor b h) (lowered a b h o) in
    omega (arith, ints)

-- ---- what the functions give

pub quotient_none : (a b : ℤ) → NoQuotient a b → Quotient a b None × KeepsBounds a b None
quotient_none a b n = (n, λ h _. only_zero n h)
  where
    only_zero : NoQuotient a b → bounded a ≡ true → b ≡ pos 0
    only_zero (inl e) h = e
    only_zero (inr e) h = absurd (true≢false (sym h ∙ ap bounded e.0))

pub quotient_some : (a b q m r : ℤ) → (NoQuotient a b → ⊥) → Floored a b q m → r ≡ q → Quotient a b (Some r) × KeepsBounds a b (Some r)
quotient_some a b q m r n f e = subst (λ z. Quotient a b (Some z) × KeepsBounds a b (Some z)) (sym e)
    ((n, (m, f)), λ h _. bounded_nearer a q (quotient_nearer a b q m (divisor b (λ i. n (inl i))) f) h)

pub modulus_some : (a b q m r : ℤ) → (b ≡ pos 0 → ⊥) → Floored a b q m → r ≡ m → Modulus a b (Some r) × KeepsBounds a b (Some r)
modulus_some a b q m r n f e = subst (λ z. Modulus a b (Some z) × KeepsBounds a b (Some z)) (sym e)
    ((n, (q, f)), λ _ h. bounded_nearer b m (modulus_nearer a b q m (divisor b n) f) h)
