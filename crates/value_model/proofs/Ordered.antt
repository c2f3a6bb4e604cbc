-- `cmp` is a total order: a value is spread into a list of integers, and `cmp` is the lexicographic order of those.
use Rattle.std.proofs.Common.{◌≡◌, ℕ, List, [], ◌∷◌, ℤ, pos, negsuc, Decides, Ordering, Less, Equal, Greater, sym, refl, ap, ◌∙◌, arith}
use Rattle.search.proofs.Orders.{is_equal}
use Rattle.search.specs.Search.{TotalOrder}
use Rattle.std.proofs.lemmas.Int.{ints}
use Rattle.std.proofs.lemmas.Bool.Decides.{nat_tests}
use Rattle.std.specs.Cmp.{IsTotalOrder, int_cmp_total}
use Rattle.std.specs.Cmp.Lexicographic.{slice_cmp, lists_total}
use Rattle.std.specs.Ordering.{is_eq, ordering_then, ordering_reverse, int_cmp, nat_cmp}
use Rattle.value_model.specs.Model.{Val, Vals, Pairs, num, text, comp, list, table, none, more, empty, pair}
use Rattle.value_model.specs.Order.{cmp, cmps, cmp_pairs, Lawful}

-- a text ends with -1, below each code; a row with 0, below the mark that each value begins with
abbrev letters : List ℕ → List ℤ → List ℤ
letters [] x = negsuc 0 ∷ x
letters (b ∷ s) x = pos b ∷ letters s x

abbrev mutual
  flat : Val → List ℤ → List ℤ
  flat (num n) x = pos 1 ∷ (n ∷ x)
  flat (text s) x = pos 2 ∷ letters s x
  flat (comp r) x = pos 3 ∷ flats r x
  flat (list r) x = pos 4 ∷ flats r x
  flat (table p) x = pos 5 ∷ flat_pairs p x

  flats : Vals → List ℤ → List ℤ
  flats none x = pos 0 ∷ x
  flats (more v r) x = flat v (flats r x)

  flat_pairs : Pairs → List ℤ → List ℤ
  flat_pairs empty x = pos 0 ∷ x
  flat_pairs (pair k a p) x = flat k (flat a (flat_pairs p x))

abbrev at : List ℤ → List ℤ → Ordering
at x y = slice_cmp int_cmp x y

pub then_assoc : (a b c : Ordering) → ordering_then a (ordering_then b c) ≡ ordering_then (ordering_then a b) c
then_assoc Less b c = refl
then_assoc Equal b c = refl
then_assoc Greater b c = refl

then_equal : (a : Ordering) → ordering_then a Equal ≡ a
then_equal Less = refl
then_equal Equal = refl
then_equal Greater = refl

same_codes : (a b : ℕ) → int_cmp (pos a) (pos b) ≡ nat_cmp a b
same_codes a b = grind (arith, ints, nat_tests)

at_letters : (s t : List ℕ) (x y : List ℤ) → at (letters s x) (letters t y) ≡ ordering_then (slice_cmp nat_cmp s t) (at x y)
at_letters [] [] x y = refl
at_letters [] (b ∷ t) x y = refl
at_letters (a ∷ s) [] x y = refl
at_letters (a ∷ s) (b ∷ t) x y = (λ i. ordering_then (same_codes a b i) (at_letters s t x y i)) ∙ then_assoc (nat_cmp a b) (slice_cmp nat_cmp s t) (at x y)

low : (w : Val) (x y : List ℤ) → at (pos 0 ∷ x) (flat w y) ≡ Less
low (num n) x y = refl
low (text s) x y = refl
low (comp r) x y = refl
low (list r) x y = refl
low (table p) x y = refl

high : (w : Val) (x y : List ℤ) → at (flat w y) (pos 0 ∷ x) ≡ Greater
high (num n) x y = refl
high (text s) x y = refl
high (comp r) x y = refl
high (list r) x y = refl
high (table p) x y = refl

mutual
  spread : (v w : Val) (x y : List ℤ) → at (flat v x) (flat w y) ≡ ordering_then (cmp v w) (at x y)
  spread (num m) (num n) x y = refl
  spread (num m) (text t) x y = refl
  spread (num m) (comp q) x y = refl
  spread (num m) (list q) x y = refl
  spread (num m) (table q) x y = refl
  spread (text s) (num n) x y = refl
  spread (text s) (text t) x y = at_letters s t x y
  spread (text s) (comp q) x y = refl
  spread (text s) (list q) x y = refl
  spread (text s) (table q) x y = refl
  spread (comp r) (num n) x y = refl
  spread (comp r) (text t) x y = refl
  spread (comp r) (comp q) x y = spreads r q x y
  spread (comp r) (list q) x y = refl
  spread (comp r) (table q) x y = refl
  spread (list r) (num n) x y = refl
  spread (list r) (text t) x y = refl
  spread (list r) (comp q) x y = refl
  spread (list r) (list q) x y = spreads r q x y
  spread (list r) (table q) x y = refl
  spread (table p) (num n) x y = refl
  spread (table p) (text t) x y = refl
  spread (table p) (comp q) x y = refl
  spread (table p) (list q) x y = refl
  spread (table p) (table q) x y = spread_pairs p q x y

  spreads : (r q : Vals) (x y : List ℤ) → at (flats r x) (flats q y) ≡ ordering_then (cmps r q) (at x y)
  spreads none none x y = refl
  spreads none (more w q) x y = low w x (flats q y)
  spreads (more v r) none x y = high v y (flats r x)
  spreads (more v r) (more w q) x y =
      spread v w (flats r x) (flats q y) ∙ ap (ordering_then (cmp v w)) (spreads r q x y) ∙ then_assoc (cmp v w) (cmps r q) (at x y)

  spread_pairs : (p q : Pairs) (x y : List ℤ) → at (flat_pairs p x) (flat_pairs q y) ≡ ordering_then (cmp_pairs p q) (at x y)
  spread_pairs empty empty x y = refl
  spread_pairs empty (pair l b q) x y = low l x (flat b (flat_pairs q y))
  spread_pairs (pair k a p) empty x y = high k y (flat a (flat_pairs p x))
  spread_pairs (pair k a p) (pair l b q) x y =
      spread k l (flat a (flat_pairs p x)) (flat b (flat_pairs q y)) ∙ ap (ordering_then (cmp k l)) (spread a b (flat_pairs p x) (flat_pairs q y) ∙ ap (ordering_then (cmp a b)) (spread_pairs p q x y) ∙ then_assoc (cmp a b) (cmp_pairs p q) (at x y)) ∙ then_assoc (cmp k l) (ordering_then (cmp a b) (cmp_pairs p q)) (at x y)

abbrev code : Val → List ℤ
code v = flat v []

is_code : (v w : Val) → cmp v w ≡ at (code v) (code w)
is_code v w = sym (spread v w [] [] ∙ then_equal (cmp v w))

pub cmp_total : IsTotalOrder cmp
cmp_total = record {
  antisymm = λ v w. is_code v w ∙ (lists_total int_cmp_total).antisymm (code v) (code w) ∙ ap ordering_reverse (sym (is_code w v));
  trans = λ u v w h k. is_code u w ∙ (lists_total int_cmp_total).trans (code u) (code v) (code w) (sym (is_code u v) ∙ h) (sym (is_code v w) ∙ k);
  congr = λ u v w h. is_code u w ∙ (lists_total int_cmp_total).congr (code u) (code v) (code w) (sym (is_code u v) ∙ h) ∙ sym (is_code v w);
}

pub cmp_order : TotalOrder cmp
cmp_order = record { flip = cmp_total.antisymm; trans = cmp_total.trans; alike = cmp_total.congr }

-- ---- equal in the order, equal

then_parts : (a b : Ordering) → ordering_then a b ≡ Equal → (a ≡ Equal) × (b ≡ Equal)
then_parts Less b e = let z : ◌≡◌ {A = ℕ} 0 1 = cc in absurd (omega arith)
then_parts Equal b e = (refl, e)
then_parts Greater b e = let z : ◌≡◌ {A = ℕ} 0 1 = cc in absurd (omega arith)

not_less : {P : Type 0} → Less ≡ Equal → P
not_less e = let z : ◌≡◌ {A = ℕ} 0 1 = cc in absurd (omega arith)

not_greater : {P : Type 0} → Greater ≡ Equal → P
not_greater e = let z : ◌≡◌ {A = ℕ} 0 1 = cc in absurd (omega arith)

same_number : (m n : ℤ) → int_cmp m n ≡ Equal → m ≡ n
same_number m n e = grind (arith, ints, nat_tests)

same_code : (a b : ℕ) → nat_cmp a b ≡ Equal → a ≡ b
same_code a b e = grind (arith, nat_tests)

same_text : (s t : List ℕ) → slice_cmp nat_cmp s t ≡ Equal → s ≡ t
same_text [] [] e = refl
same_text [] (b ∷ t) e = not_less e
same_text (a ∷ s) [] e = not_greater e
same_text (a ∷ s) (b ∷ t) e =
    let p = then_parts (nat_cmp a b) (slice_cmp nat_cmp s t) e in
    let i = same_code a b p.0 in
    let j = same_text s t p.1 in
    cc

mutual
  pub cmp_same : (v w : Val) → cmp v w ≡ Equal → v ≡ w
  cmp_same (num m) (num n) e = ap num (same_number m n e)
  cmp_same (num m) (text t) e = not_less e
  cmp_same (num m) (comp q) e = not_less e
  cmp_same (num m) (list q) e = not_less e
  cmp_same (num m) (table q) e = not_less e
  cmp_same (text s) (num n) e = not_greater e
  cmp_same (text s) (text t) e = ap text (same_text s t e)
  cmp_same (text s) (comp q) e = not_less e
  cmp_same (text s) (list q) e = not_less e
  cmp_same (text s) (table q) e = not_less e
  cmp_same (comp r) (num n) e = not_greater e
  cmp_same (comp r) (text t) e = not_greater e
  cmp_same (comp r) (comp q) e = ap comp (cmps_same r q e)
  cmp_same (comp r) (list q) e = not_less e
  cmp_same (comp r) (table q) e = not_less e
  cmp_same (list r) (num n) e = not_greater e
  cmp_same (list r) (text t) e = not_greater e
  cmp_same (list r) (comp q) e = not_greater e
  cmp_same (list r) (list q) e = ap list (cmps_same r q e)
  cmp_same (list r) (table q) e = not_less e
  cmp_same (table p) (num n) e = not_greater e
  cmp_same (table p) (text t) e = not_greater e
  cmp_same (table p) (comp q) e = not_greater e
  cmp_same (table p) (list q) e = not_greater e
  cmp_same (table p) (table q) e = ap table (cmp_pairs_same p q e)

  cmps_same : (r q : Vals) → cmps r q ≡ Equal → r ≡ q
  cmps_same none none e = refl
  cmps_same none (more w q) e = not_less e
  cmps_same (more v r) none e = not_greater e
  cmps_same (more v r) (more w q) e =
      let p = then_parts (cmp v w) (cmps r q) e in
      let i = cmp_same v w p.0 in
      let j = cmps_same r q p.1 in
      cc

  cmp_pairs_same : (p q : Pairs) → cmp_pairs p q ≡ Equal → p ≡ q
  cmp_pairs_same empty empty e = refl
  cmp_pairs_same empty (pair l b q) e = not_less e
  cmp_pairs_same (pair k a p) empty e = not_greater e
  cmp_pairs_same (pair k a p) (pair l b q) e =
      let m = then_parts (cmp k l) (ordering_then (cmp a b) (cmp_pairs p q)) e in
      let n = then_parts (cmp a b) (cmp_pairs p q) m.1 in
      let h = cmp_same k l m.0 in
      let i = cmp_same a b n.0 in
      let j = cmp_pairs_same p q n.1 in
      cc

pub lawful : Lawful
lawful = record { order = cmp_order; same = cmp_same }

-- and equal, equal in the order
itself : (o : Ordering) → o ≡ ordering_reverse o → o ≡ Equal
itself Less e = let z : ◌≡◌ {A = ℕ} 0 1 = cc in absurd (omega arith)
itself Equal e = refl
itself Greater e = let z : ◌≡◌ {A = ℕ} 0 1 = cc in absurd (omega arith)

pub cmp_equal : (v w : Val) → v ≡ w → cmp v w ≡ Equal
cmp_equal v w e = ap (cmp v) (sym e) ∙ itself (cmp v v) (cmp_order.flip v v)

pub equal_decides : (v w : Val) → Decides (is_eq (cmp v w)) (v ≡ w)
equal_decides v w = (λ e. cmp_same v w (is_equal (cmp v w) e), λ e. ap is_eq (cmp_equal v w e))
