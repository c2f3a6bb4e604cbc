-- What `is_sorted` answers, by recursion along the row.
use Rattle.std.proofs.Common.{◌≡◌, ℕ, zero, suc, ◌+◌, ◌<◌, Bool, true, false, not, ◌&&◌, List, [], ◌∷◌, length, slice_index_or, Ordering, Less, Equal, Greater, sym, refl, ap, ◌∙◌, arith}
use native.Mathlib.Numerals.{unary_clauses}
use Rattle.std.proofs.Math.Bool.{and-false}
use Rattle.std.specs.Ordering.{is_le, is_gt, partial_le, as_partial_cmp, on}
use Rattle.types.specs.Types.{ascending}
use Rattle.value_model.specs.Order.{cmp}
use Rattle.values.specs.declared.value.Value.{Value}
use Rattle.values.specs.Means.{val, vals}
use Rattle.std.specs.List.{IsAllAdjacentAnswer}

module _ {X : Type 0} (e : X → X → Bool) where
  abbrev pub leads_by : X → List X → Bool
  leads_by x [] = true
  leads_by x (y ∷ ys) = e x y

  -- e holds of each item and the next
  abbrev pub sorted_by : List X → Bool
  sorted_by [] = true
  sorted_by (x ∷ xs) = leads_by x xs && sorted_by xs

  all_hold : (xs : List X) → ((k : ℕ) (d : X) → k + 1 < length xs → true ≡ e (slice_index_or xs k d) (slice_index_or xs (k + 1) d)) → true ≡ sorted_by xs
  all_hold [] h = refl
  all_hold (x ∷ []) h = refl
  all_hold (x ∷ (y ∷ ys)) h =
      all_hold (y ∷ ys) (λ k d lt. let i = simp unary_clauses at (h (suc k) d (omega arith)) in simp unary_clauses i) ∙ ap (λ t. t && sorted_by (y ∷ ys)) (h 0 x (omega arith))

  one_fails : (xs : List X) (k : ℕ) → k + 1 < length xs → ((d : X) → false ≡ e (slice_index_or xs k d) (slice_index_or xs (k + 1) d)) → false ≡ sorted_by xs
  one_fails [] k lt h = absurd (omega arith)
  one_fails (x ∷ []) k lt h = absurd (omega arith)
  one_fails (x ∷ (y ∷ ys)) zero lt h = ap (λ t. t && sorted_by (y ∷ ys)) (h x)
  one_fails (x ∷ (y ∷ ys)) (suc k) lt h =
      let i = one_fails (y ∷ ys) k (omega arith) (λ d. let i = simp unary_clauses at (h d) in simp unary_clauses i) in
      sym (and-false (e x y)) ∙ ap (◌&&◌ (e x y)) i

  pub is_sorted_answer : (xs : List X) (r : Bool) → IsAllAdjacentAnswer (λ x y b. e x y ≡ b) xs r → r ≡ sorted_by xs
  is_sorted_answer xs true h = all_hold xs (λ k d lt. sym (h k d lt))
  is_sorted_answer xs false h = one_fails xs h.0 h.1 (λ d. sym (h.2 d))

at_most : (o : Ordering) → is_le o ≡ not (is_gt o)
at_most Less = refl
at_most Equal = refl
at_most Greater = refl

pub sorted_row : (vs : List Value) → sorted_by (partial_le (as_partial_cmp (on val cmp))) vs ≡ ascending (vals vs)
sorted_row [] = refl
sorted_row (v ∷ []) = refl
sorted_row (v ∷ (w ∷ ws)) = λ i. at_most (cmp (val v) (val w)) i && sorted_row (w ∷ ws) i
