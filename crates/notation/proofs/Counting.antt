-- The steps of the readers of numbers.
use Rattle.std.proofs.Common.{◌≡◌, ℕ, zero, suc, ◌+◌, ◌-◌, ◌*◌, ◌/◌, ◌%◌, ◌<◌, ◌≤◌, Bool, true, false, leb, ◌⊎◌, List, [], ◌∷◌, ◌++◌, length, get_or, take, drop, ℤ, pos, negsuc, neg_ℤ, ◌+ℤ◌, ◌*ℤ◌, ◌≤ℤ◌, ◌<ℤ◌, sym, refl, ap, ◌∙◌, subst, inl, inr, Some, None, Option, is_some, Ok, Err, Result, append_assoc, append-nil, take_all, arith, length-drop}
use Rattle.std.specs.Char.{is_ascii_digit}
use Rattle.std.specs.Int.Digits.{digits_of}
use Rattle.std.proofs.lemmas.Int.Digits.{digits_of_step}
use Rattle.std.proofs.lemmas.Bool.Decides.{nat_tests, leb_tells}
use Rattle.std.proofs.lemmas.Int.{ints}
use Rattle.std.proofs.lemmas.List.{drop_more, get_or-drop}
use Rattle.notation.specs.Digits.{Digit, NoDigit, DigitAt, Capped, GotNat, GotNumber, NoNat, NoNumber, ReadNat, ReadNumber}
use Rattle.reading.specs.Bytes.{NotHere}
use Rattle.reading.specs.declared.word.Word.{Word}
use Rattle.reading.proofs.Whole.{Readable}
use Rattle.notation.specs.Numbers.{nat, int, NumberForm}
use Rattle.reading.specs.Reading.{SameHead}
use Rattle.notation.proofs.Numerals.{chars, digit_more, nat_first, nat_head, int_unique}

-- a number is being read: its digits up to the place i are those of m
pub record Going (s : List ℕ) (at first : ℕ) (v : ℤ) (fits : Bool) (i : ℕ) : Type 0 where
  pub m : ℕ
  pub some : 0 < m
  pub shows : (48 + first) ∷ drop at s ≡ nat m ++ drop i s
  pub so : Capped m v fits

nat_pos : (n : ℕ) → 0 < n → nat n ≡ chars (digits_of 10 n)
nat_pos zero h = absurd (omega arith)
nat_pos (suc n) h = refl

pub nat_one : (d : ℕ) → 0 < d → d < 10 → nat d ≡ (48 + d) ∷ []
nat_one d h k =
    let p : d / 10 ≡ 0 = omega arith in
    let q : d % 10 ≡ d = omega arith in
    nat_pos d h ∙ ap chars (digits_of_step 10 d (omega arith) h) ∙ rw (p, q)

pub nat_more : (n d : ℕ) → 0 < n → d < 10 → nat (n * 10 + d) ≡ nat n ++ ((48 + d) ∷ [])
nat_more n d h k = nat_pos (n * 10 + d) (omega arith) ∙ digit_more n d h k ∙ ap (λ x. x ++ ((48 + d) ∷ [])) (sym (nat_pos n h))

keeps : (m d : ℕ) (v : ℤ) (fits : Bool) → Capped m v fits → d < 10 → fits ≡ true → v ≤ℤ pos 99999999 → Capped (m * 10 + d) (v *ℤ pos 10 +ℤ pos d) fits
keeps m d v fits h k t l =
    let a : leb m 999999999 ≡ true = sym h.within ∙ t in
    let b : m ≤ 999999999 = grind (arith, nat_tests) in
    let e = h.means b in
    record { within = grind (arith, nat_tests); means = λ g. omega (arith, ints); positive = omega (arith, ints, h.positive); small = omega (arith, ints) }

loses : (m d : ℕ) (v : ℤ) (fits : Bool) → Capped m v fits → (fits ≡ false) ⊎ (pos 99999999 <ℤ v) → Capped (m * 10 + d) v false
loses m d v fits h o =
    let big : 99999999 < m = elim (leb_tells m 999999999) [ inl x ↦ go x o | inr x ↦ omega (arith, x.1) ] in
    record { within = grind (arith, nat_tests); means = λ g. absurd (omega arith); positive = h.positive; small = h.small }
  where
    go : (leb m 999999999 ≡ true) × (m ≤ 999999999) → (fits ≡ false) ⊎ (pos 99999999 <ℤ v) → 99999999 < m
    go x (inl f) = let w = h.within in let y = x.0 in cc
    go x (inr g) = omega (arith, ints, h.means x.1)

-- the byte x is the next digit, and the place j is after it
module _ (s : List ℕ) (at first i j x : ℕ) (v : ℤ) (fits : Bool) (h : Going s at first v fits i) (e : drop i s ≡ x ∷ drop j s) (k : Digit x) where
  onward : (48 + first) ∷ drop at s ≡ nat (h.m * 10 + (x - 48)) ++ drop j s
  onward =
      let a = h.shows in
      let b = nat_more h.m (x - 48) h.some (omega arith) in
      let c = append_assoc (nat h.m) ((48 + (x - 48)) ∷ []) (drop j s) in
      let f : 48 + (x - 48) ≡ x = omega arith in
      cc

  pub going_keeps : (w : ℤ) → w ≡ v *ℤ pos 10 +ℤ pos (x - 48) → fits ≡ true → v ≤ℤ pos 99999999 → Going s at first w fits j
  going_keeps w g t l = rw g (record { m = h.m * 10 + (x - 48); some = omega (arith, h.some); shows = onward; so = keeps h.m (x - 48) v fits h.so (omega arith) t l })

  pub going_loses : (fits ≡ false) ⊎ (pos 99999999 <ℤ v) → Going s at first v false j
  going_loses o = record { m = h.m * 10 + (x - 48); some = omega (arith, h.some); shows = onward; so = loses h.m (x - 48) v fits h.so o }

slice_from : (s : List ℕ) (at : ℕ) → take (length s - at) (drop at s) ≡ drop at s
slice_from s at = take_all (length s - at) (drop at s) (omega (arith, length-drop at s))

-- a digit of what stands from a place on
pub digit_next : (s : List ℕ) (at k x : ℕ) → at + k < length s → x ≡ get_or (take (length s - at) (drop at s)) k 0 → is_ascii_digit x ≡ true → (drop (at + k) s ≡ x ∷ drop (at + k + 1) s) × Digit x
digit_next s at k x l e d =
    let a = ap (λ y. get_or y k 0) (slice_from s at) in
    let b = get_or-drop at s k 0 in
    let f = drop_more s (at + k) 0 l in
    (cc, grind (arith, nat_tests))

pub going_starts : (s : List ℕ) (at first : ℕ) → 0 < first → first < 10 → Going s at first (pos first) true at
going_starts s at first k l =
    let e = nat_one first k l in
    record { m = first; some = k; shows = cc; so = record { within = grind (arith, nat_tests); means = λ _. refl; positive = omega (arith, ints); small = omega (arith, ints) } }

-- ---- a number without a sign

no_digit_head : (X R : List ℕ) → SameHead X R → NoDigit X → NoDigit R
no_digit_head [] [] h n = tt
no_digit_head [] (d ∷ R) h n = elim h [ ]
no_digit_head (c ∷ X) [] h n = elim h [ ]
no_digit_head (c ∷ X) (d ∷ R) h n = λ k. n (omega arith, omega arith)

not_nat : (X : List ℕ) → NoDigit X → (n : ℕ) (rest : List ℕ) → X ≡ nat n ++ rest → ⊥
not_nat [] h n rest e = let p = nat_head n in let f = p.2 in cc
not_nat (c ∷ X) h n rest e = let p = nat_head n in let f = p.2 in let g = p.3 in let z : c ≡ p.0 = cc in h (omega arith, omega arith)

-- where no digit stands, no number does
pub nat_none : (X : List ℕ) → NoDigit X → NoNat X X
nat_none X h = record {
  front = [];
  splits = refl;
  word = 0;
  right = tt;
  more = 48 ∷ [];
  shares = refl;
  stop = λ R s n rest _ _ e. not_nat R (no_digit_head X R s h) n rest e;
}

-- nor where a digit follows a zero
nat_zero : (X Y Z : List ℕ) (c d : ℕ) → X ≡ c ∷ Y → c ≡ 48 → Y ≡ (48 + d) ∷ Z → d < 10 → NoNat X Y
nat_zero X Y Z c d p q r l = record {
  front = 48 ∷ [];
  splits = cc;
  word = 0;
  right = tt;
  more = [];
  shares = refl;
  stop = λ R s n rest _ a e. stop_at R n rest (subst (λ (Y : List ℕ). SameHead Y R) r s) a e;
}
  where
    stop_at : (R : List ℕ) (n : ℕ) (rest : List ℕ) → SameHead ((48 + d) ∷ Z) R → NoDigit rest → 48 ∷ R ≡ nat n ++ rest → ⊥
    stop_at [] n rest s a e = s
    stop_at (b ∷ R) zero rest s a e = go rest a (cc)
      where
        go : (rest : List ℕ) → NoDigit rest → b ∷ R ≡ rest → ⊥
        go [] a e = cc
        go (x ∷ rest) a e = let z : b ≡ x = cc in a (omega arith, omega arith)
    stop_at (b ∷ R) (suc n) rest s a e =
        let f = nat_first (suc n) (omega arith) in
        let g = f.2 in
        let z : f.0 ≡ 48 = cc in
        omega (arith, f.3)

pub zero_more : (s : List ℕ) (at : ℕ) (o : Option ℕ) → DigitAt s at (Some 0) → DigitAt s (at + 1) o → true ≡ is_some o → NoNat (drop at s) (drop (at + 1) s)
zero_more s at None h k e = cc
zero_more s at (Some d) h k e = nat_zero _ _ _ 48 d h.1 refl k.1 k.2

-- ---- a number with a sign

same_head_front : (X front back R : List ℕ) → X ≡ front ++ back → SameHead back R → SameHead X (front ++ R)
same_head_front X [] back R e h = subst (λ (Y : List ℕ). SameHead Y R) (sym e) h
same_head_front X (c ∷ front) back R e h = subst (λ (Y : List ℕ). SameHead Y (c ∷ (front ++ R))) (sym e) refl

head_of : (X R Y : List ℕ) (c : ℕ) → SameHead X R → R ≡ c ∷ Y → (Z : List ℕ) × (X ≡ c ∷ Z)
head_of [] (r ∷ R) Y c h e = elim h [ ]
head_of (x ∷ X) [] Y c h e = elim h [ ]
head_of [] [] Y c h e = absurd (cc)
head_of (x ∷ X) (r ∷ R) Y c h e = (X, cc)

number_none : (X back : List ℕ) → NoNat X back → ((rest : List ℕ) → X ≡ 45 ∷ rest → ⊥) → NoNumber X back
number_none X back h k = record {
  front = h.front;
  splits = h.splits;
  word = pos h.word;
  right = tt;
  more = h.more;
  shares = h.shares;
  stop = λ R s z rest _ a e. go R s z rest a e;
}
  where
    go : (R : List ℕ) → SameHead back R → (z : ℤ) (rest : List ℕ) → NoDigit rest → h.front ++ R ≡ int z ++ rest → ⊥
    go R s (pos n) rest a e = h.stop R s n rest tt a e
    go R s (negsuc n) rest a e =
        let p = head_of X (h.front ++ R) (nat (suc n) ++ rest) 45 (same_head_front X h.front back R h.splits s) e in
        k p.0 p.1

minus_not_nat : (n : ℕ) (rest R : List ℕ) → 45 ∷ R ≡ nat n ++ rest → ⊥
minus_not_nat n rest R e =
    let p = nat_head n in
    let g = p.2 in
    let z : p.0 ≡ 45 = cc in
    omega (arith, p.3.0)

-- after a minus, no digit, or a zero
minus_none : (X Z : List ℕ) → X ≡ 45 ∷ Z → ((c : ℕ) (Y : List ℕ) → Z ≡ c ∷ Y → 48 < c → c ≤ 57 → ⊥) → NoNumber X Z
minus_none X Z e h = record {
  front = 45 ∷ [];
  splits = e;
  word = negsuc 0;
  right = tt;
  more = nat 1;
  shares = refl;
  stop = λ R s z rest _ a f. go R s z rest f;
}
  where
    go : (R : List ℕ) → SameHead Z R → (z : ℤ) (rest : List ℕ) → 45 ∷ R ≡ int z ++ rest → ⊥
    go R s (pos n) rest f = minus_not_nat n rest R f
    go R s (negsuc n) rest f =
        let p = nat_first (suc n) (omega arith) in
        let q = p.2 in
        let i : R ≡ p.0 ∷ (p.1 ++ rest) = cc in
        let m = head_of Z R (p.1 ++ rest) p.0 s i in
        h p.0 m.0 m.1 p.3 p.4

pub minus_no_digit : (X Z : List ℕ) → X ≡ 45 ∷ Z → NoDigit Z → NoNumber X Z
minus_no_digit X Z e h = minus_none X Z e (no Z h)
  where
    no : (Z : List ℕ) → NoDigit Z → (c : ℕ) (Y : List ℕ) → Z ≡ c ∷ Y → 48 < c → c ≤ 57 → ⊥
    no [] h c Y e a b = cc
    no (x ∷ Z) h c Y e a b = let z : x ≡ c = cc in h (omega arith, omega arith)

pub minus_zero : (X Z W : List ℕ) (d : ℕ) → X ≡ 45 ∷ Z → Z ≡ (48 + d) ∷ W → d ≡ 0 → NoNumber X Z
minus_zero X Z W d e f z = minus_none X Z e (λ c Y g a b. let i : c ≡ 48 + d = cc in omega arith)

plus_number : (X Y : List ℕ) (fits : Bool) (v : ℤ) → GotNat X v fits Y → GotNumber X v fits Y
plus_number X Y fits v g =
    record {
      z = pos g.n;
      shows = g.shows;
      after = g.after;
      within = g.so.within;
      means = λ t.
          let a : leb g.n 999999999 ≡ true = sym g.so.within ∙ t in
          let b : g.n ≤ 999999999 = grind (arith, nat_tests) in
          g.so.means b;
    }

-- where no minus stands, what is read without a sign is a number
pub unsigned : (s : List ℕ) (at : ℕ) (r : Result (Word ℤ) ℕ) → NotHere s at 45 → ReadNat s at r → ReadNumber s at r
unsigned s at (Ok w) n h = (h.0, h.1, plus_number _ _ _ _ h.2)
unsigned s at (Err k) n h = (h.0, h.1, number_none _ _ h.2 n)

pub minus_number : (X Y Z W : List ℕ) (d : ℕ) (fits : Bool) (n v : ℤ) → X ≡ 45 ∷ Z → Z ≡ (48 + d) ∷ W → 0 < d → GotNat ((48 + d) ∷ W) n fits Y → v ≡ neg_ℤ n → GotNumber X v fits Y
minus_number X Y Z W d fits n v e f l g i = go g.n g.shows g.so
  where
    go : (m : ℕ) → (48 + d) ∷ W ≡ nat m ++ Y → Capped m n fits → GotNumber X v fits Y
    go zero j k = let o : 48 + d ≡ 48 = cc in absurd (omega arith)
    go (suc m) j k = record {
      z = negsuc m;
      shows = cc;
      after = g.after;
      within = k.within;
      means = λ t.
          let a : leb (suc m) 999999999 ≡ true = sym k.within ∙ t in
          let b : suc m ≤ 999999999 = grind (arith, nat_tests) in
          i ∙ ap neg_ℤ (k.means b);
    }

pub number_readable : Readable (λ (z : ℤ). Unit {0}) (λ z rest. int z ++ rest) NoDigit NumberForm
number_readable = record {
  after_end = tt;
  after_head = no_digit_head;
  joins = λ z rest. ap (λ x. x ++ rest) (sym (append-nil (int z)));
  same = λ x y r q _ _ h k e. int_unique x y r q h k e;
  forms = λ z s _ e. sym (append-nil (int z)) ∙ e;
  right = λ z s _. tt;
  shows = λ z s e. append-nil (int z) ∙ e;
}
