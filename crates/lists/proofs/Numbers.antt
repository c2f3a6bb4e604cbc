-- The numbers from one to another, put into a row.
use Rattle.std.proofs.Common.{◌≡◌, ℕ, zero, suc, ◌+◌, ◌-◌, ◌<◌, ◌≤◌, true, not, List, [], ◌∷◌, ◌++◌, length, map, add-one, ℤ, pos, negsuc, ◌+ℤ◌, ◌≤ℤ◌, ◌<ℤ◌, sym, refl, ap, ◌∙◌, subst, arith}
use Rattle.types.proofs.Of.{of_list}
use Rattle.lists.proofs.Gathered.{row_listed}
use Rattle.values.specs.declared.value.Value.{Value, Number}
use Rattle.values.specs.Means.{val, vals}
use Rattle.value_model.specs.Rows.{listed}
use Rattle.std.proofs.lemmas.List.{map-append, length_push}
use Rattle.lists.specs.Ranges.{numbers, Count, Numbered}
use Rattle.std.proofs.lemmas.Int.{ints}
use Rattle.std.proofs.lemmas.Bool.{and_from, le-leb, leb-true}
use Rattle.std.proofs.lemmas.Bool.Decides.{nat_tests}
use Rattle.std.specs.Ordering.{is_gt, int_cmp}
use Rattle.types.specs.Model.{number, lists}
use Rattle.types.specs.Types.{bounded, leads, ascending, all_formed, Of}
use Rattle.value_model.specs.Model.{num, list}
use Rattle.value_model.specs.Sizes.{sizes}

-- the count of the numbers from a up to the one before b, where b is above a by more than m
pub longer : (m : ℕ) (a b : ℤ) → (a +ℤ pos m) <ℤ b → (n : ℕ) × (b ≡ a +ℤ pos n) × (m < n)
longer m (pos a) (pos b) h = (b - a, omega (arith, ints), omega (arith, ints))
longer m (pos a) (negsuc b) h = (0, omega (arith, ints), omega (arith, ints))
longer m (negsuc a) (pos b) h = (b + suc a, omega (arith, ints), omega (arith, ints))
longer m (negsuc a) (negsuc b) h = (a - b, omega (arith, ints), omega (arith, ints))

-- the number after the last of a row of numbers
numbers_more : (a b : ℤ) (n : ℕ) → b ≡ a +ℤ pos n → listed (numbers a n) ++ num b ∷ [] ≡ listed (numbers a (suc n))
numbers_more a b zero e = let i : b ≡ a = omega (arith, ints) in ap (λ c. num c ∷ []) i
numbers_more a b (suc n) e = ap (λ vs. num a ∷ vs) (numbers_more (a +ℤ pos 1) b n (omega (arith, ints)))

-- the row has the numbers from start up to the one before next, which is at most end
pub record Upward (start end next : ℤ) (row : List Value) : Type 0 where
  pub within : next ≤ℤ end
  pub reaches : next ≡ start +ℤ pos (length row)
  pub value : map val row ≡ listed (numbers start (length row))

pub upward_more : (s e n m k : ℤ) (vs ws : List Value) → Upward s e n vs → n <ℤ e → m ≡ n +ℤ pos 1 → k ≡ n → ws ≡ vs ++ Number k ∷ [] → Upward s e m ws
upward_more s e n m k vs ws h b i q j =
    let l : length ws ≡ suc (length vs) = ap length j ∙ length_push vs (Number k) ∙ add-one (length vs) in
    let r : n ≡ s +ℤ pos (length vs) = h.reaches in
    record {
      within = omega (arith, ints);
      reaches = omega (arith, ints);
      value = ap (map val) j ∙ map-append val vs (Number k ∷ []) ∙ ap (λ us. us ++ num k ∷ []) h.value ∙ numbers_more s k (length vs) (q ∙ r) ∙ ap (λ c. listed (numbers s c)) (sym l);
    }

-- ---- the list is of its type

in_bounds : (a : ℤ) → bounded a ≡ true → (negsuc 999999998 ≤ℤ a) × (a ≤ℤ pos 999999999)
in_bounds (pos a) h = let l = leb-true a 999999999 h in (omega (arith, ints), omega (arith, ints))
in_bounds (negsuc a) h = let l = leb-true (suc a) 999999999 h in (omega (arith, ints), omega (arith, ints))

from_bounds : (a : ℤ) → negsuc 999999998 ≤ℤ a → a ≤ℤ pos 999999999 → bounded a ≡ true
from_bounds (pos a) l h = le-leb a 999999999 (omega (arith, ints))
from_bounds (negsuc a) l h = le-leb (suc a) 999999999 (omega (arith, ints))

numbers_formed : (a : ℤ) (n : ℕ) → negsuc 999999998 ≤ℤ a → (a +ℤ pos n) ≤ℤ pos 1000000000 → all_formed (numbers a n) number ≡ true
numbers_formed a zero l h = refl
numbers_formed a (suc n) l h =
    and_from (bounded a) (all_formed (numbers (a +ℤ pos 1) n) number) (from_bounds a l (omega (arith, ints))) (numbers_formed (a +ℤ pos 1) n (omega (arith, ints)) (omega (arith, ints)))

rises : (a : ℤ) → not (is_gt (int_cmp a (a +ℤ pos 1))) ≡ true
rises a = grind (arith, ints, nat_tests)

numbers_ascending : (a : ℤ) (n : ℕ) → ascending (numbers a n) ≡ true
numbers_ascending a zero = refl
numbers_ascending a (suc zero) = refl
numbers_ascending a (suc (suc n)) = and_from (leads (num a) (numbers (a +ℤ pos 1) (suc n))) (ascending (numbers (a +ℤ pos 1) (suc n))) (rises a) (numbers_ascending (a +ℤ pos 1) (suc n))

numbers_sizes : (a : ℤ) (n : ℕ) → sizes (numbers a n) ≡ n
numbers_sizes a zero = refl
numbers_sizes a (suc n) = let h = numbers_sizes (a +ℤ pos 1) n in omega arith

numbers_of : (a b : ℤ) (n : ℕ) → Count a b n → n ≤ 255 → bounded a ≡ true → bounded b ≡ true → Of (lists number) (list (numbers a n))
numbers_of a b n e l f g =
    let i = in_bounds a f in
    let j = in_bounds b g in
    let h : (a +ℤ pos n) ≤ℤ pos 1000000000 = omega (arith, ints) in
    let s = numbers_sizes a n in
    of_list number (numbers a n) (numbers_ascending a n) (numbers_formed a n i.0 h) (omega arith)

pub numbered : (s e n a b : ℤ) (vs : List Value) → Upward s e n vs → s ≡ a → n ≡ b +ℤ pos 1 → length vs ≤ 255 → Numbered a b (vals vs)
numbered s e n a b vs h i j l =
    let r : n ≡ s +ℤ pos (length vs) = h.reaches in
    let k : Count a b (length vs) = omega (arith, ints) in
    let v : vals vs ≡ numbers a (length vs) = sym (row_listed _ _ (sym h.value)) ∙ ap (λ m. numbers m (length vs)) i in
    record {
      count = length vs;
      counts = k;
      few = l;
      value = v;
      typed = λ f g. subst (λ r. Of (lists number) (list r)) (sym v) (numbers_of a b (length vs) k l f g);
    }
