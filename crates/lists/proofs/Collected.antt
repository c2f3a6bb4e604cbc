-- Values that are sorted are the row that they are gathered into.
use Rattle.std.proofs.Common.{◌≡◌, ℕ, suc, ◌+◌, true, false, cond, not, List, [], ◌∷◌, map, Ordering, Less, Equal, Greater, sym, refl, ap, ◌∙◌, arith}
use Rattle.lists.proofs.Gathered.{gathered_counts, gathered_ascending}
use Rattle.lists.specs.Laws.{occurrences}
use Rattle.lists.specs.Lists.{gathered}
use Rattle.search.proofs.Orders.{greater, less, less_at_most_less}
use Rattle.std.proofs.lemmas.Bool.{and_parts, and_from}
use Rattle.std.proofs.lemmas.List.Sorted.{sum_by-IsPermutation, IsPermutation-map}
use Rattle.std.proofs.lemmas.List.Sums.{sum_by-cons}
use Rattle.std.specs.List.{sum_by}
use Rattle.std.specs.List.Sorted.{IsPermutation, IsSorted}
use Rattle.std.specs.Ordering.{is_eq, is_lt, is_gt, on}
use Rattle.types.specs.Types.{leads, ascending}
use Rattle.value_model.proofs.Ordered.{cmp_order, cmp_same, cmp_equal}
use Rattle.value_model.specs.Model.{Val, Vals, none, more}
use Rattle.value_model.specs.Order.{cmp}
use Rattle.value_model.specs.Rows.{row_of}
use Rattle.values.specs.declared.value.Value.{Value}
use Rattle.values.specs.Means.{val, vals}

-- what w counts among the occurrences of v
abbrev once : Val → Val → ℕ
once v w = cond (is_eq (cmp w v)) 1 0

-- ---- rows in order in which each value occurs as often are the same

-- what is below the first of a row in order does not occur in it
below : (v w : Val) (r : Vals) → cmp v w ≡ Less → ascending (more w r) ≡ true → occurrences v (more w r) ≡ 0
below v w none l a = rw (greater cmp cmp_order v w l) refl
below v w (more u r) l a =
    let p = and_parts (leads w (more u r)) (ascending (more u r)) a in
    let h = below v u r (less_at_most_less cmp cmp_order v w u l p.0) p.1 in
    rw (greater cmp cmp_order v w l) (omega arith)

first : (v : Val) (r : Vals) → occurrences v (more v r) ≡ 1 + occurrences v r
first v r = rw (cmp_equal v v refl) refl

-- the rows occur alike
abbrev Alike : Vals → Vals → Type 0
Alike r q = (v : Val) → occurrences v r ≡ occurrences v q

rest_alike : (v w : Val) (r q : Vals) → v ≡ w → Alike (more v r) (more w q) → Alike r q
rest_alike v w r q e h u =
    let i = h u in
    let j : once u v ≡ once u w = ap (once u) e in
    omega arith

same_row : (r q : Vals) → ascending r ≡ true → ascending q ≡ true → Alike r q → r ≡ q
same_row none none a b h = refl
same_row none (more w q) a b h = let e = h w in let i = first w q in absurd (omega arith)
same_row (more v r) none a b h = let e = h v in let i = first v r in absurd (omega arith)
same_row (more v r) (more w q) a b h = go (same_row r q (and_parts (leads v r) (ascending r) a).1 (and_parts (leads w q) (ascending q) b).1) (cmp v w) refl
  where
    go : (Alike r q → r ≡ q) → (o : Ordering) → cmp v w ≡ o → more v r ≡ more w q
    go f Less e = let i = h v in let j = below v w q e b in let k = first v r in absurd (omega arith)
    go f Equal e =
        let i = cmp_same v w e in
        let j = f (rest_alike v w r q i h) in
        cc
    go f Greater e = let i = h w in let j = below w v r (less cmp cmp_order v w e) a in let k = first w q in absurd (omega arith)

-- ---- what a sort says

counted : (v : Val) (vs : List Val) → occurrences v (row_of vs) ≡ sum_by (once v) vs
counted v [] = refl
counted v (w ∷ vs) = let h = counted v vs in let i = sum_by-cons (once v) w vs in omega arith

permuted : (v : Val) (vs ws : List Val) → IsPermutation vs ws → occurrences v (row_of ws) ≡ occurrences v (row_of vs)
permuted v vs ws p = counted v ws ∙ sum_by-IsPermutation (once v) vs ws p ∙ sym (counted v vs)

not_above : (v w : Val) → is_lt (cmp w v) ≡ false → not (is_gt (cmp v w)) ≡ true
not_above v w e = let f = cmp_order.flip v w in grind arith

tail_sorted : (v : Value) (vs : List Value) → IsSorted (on val cmp) (v ∷ vs) → IsSorted (on val cmp) vs
tail_sorted v vs h k d l m = let e = h (suc k) d (omega arith) (omega arith) in grind arith

sorted_ascending : (vs : List Value) → IsSorted (on val cmp) vs → ascending (vals vs) ≡ true
sorted_ascending [] h = refl
sorted_ascending (v ∷ []) h = refl
sorted_ascending (v ∷ w ∷ vs) h =
    and_from (leads (val v) (vals (w ∷ vs))) (ascending (vals (w ∷ vs))) (not_above (val v) (val w) (h 0 v (omega arith) (omega arith))) (sorted_ascending (w ∷ vs) (tail_sorted v (w ∷ vs) h))

pub collected : (vs ws : List Value) → IsPermutation vs ws → IsSorted (on val cmp) ws → vals ws ≡ gathered (map val vs) none
collected vs ws p s =
    same_row (vals ws) (gathered (map val vs) none) (sorted_ascending ws s) (gathered_ascending (map val vs)) (λ v. permuted v (map val vs) (map val ws) (IsPermutation-map val vs ws p) ∙ sym (gathered_counts v (map val vs)))
