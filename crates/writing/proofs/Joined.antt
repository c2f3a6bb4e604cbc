-- `shown v rest` is the display of v, and then the rest.
use Rattle.std.proofs.Common.{◌≡◌, ℕ, Bool, true, false, List, ◌∷◌, ◌++◌, sym, refl, ap, ◌∙◌, append_assoc}
use Rattle.notation.proofs.Quoting.{inner_joins}
use Rattle.notation.specs.Numbers.{int}
use Rattle.value_model.specs.Model.{Val, Vals, Pairs, num, text, comp, list, table, none, more, empty, pair}
use Rattle.writing.specs.Displays.{parted, shown, shown_items, shown_entries}

parted_joins : (first : Bool) (sep : ℕ) (x y : List ℕ) → parted first sep (x ++ y) ≡ parted first sep x ++ y
parted_joins true sep x y = refl
parted_joins false sep x y = refl

mutual
  pub shown_joins : (v : Val) (x y : List ℕ) → shown v (x ++ y) ≡ shown v x ++ y
  shown_joins (num z) x y = sym (append_assoc (int z) x y)
  shown_joins (text s) x y = ap (λ z. 39 ∷ z) (inner_joins s (39 ∷ x) y)
  shown_joins (comp r) x y = ap (λ z. 40 ∷ z) (items_joins r true 44 41 x y)
  shown_joins (list r) x y = ap (λ z. 123 ∷ z) (items_joins r true 59 125 x y)
  shown_joins (table p) x y = ap (λ z. 123 ∷ z) (entries_joins p true x y)

  pub items_joins : (r : Vals) (first : Bool) (sep close : ℕ) (x y : List ℕ) → shown_items r first sep close (x ++ y) ≡ shown_items r first sep close x ++ y
  items_joins none first sep close x y = refl
  items_joins (more v r) first sep close x y =
      ap (parted first sep) (ap (shown v) (items_joins r false sep close x y) ∙ shown_joins v (shown_items r false sep close x) y) ∙ parted_joins first sep (shown v (shown_items r false sep close x)) y

  pub entries_joins : (p : Pairs) (first : Bool) (x y : List ℕ) → shown_entries p first (x ++ y) ≡ shown_entries p first x ++ y
  entries_joins empty first x y = refl
  entries_joins (pair k a p) first x y =
      let w = shown a (shown_entries p false x) in
      ap (λ z. parted first 59 (91 ∷ shown k (93 ∷ (58 ∷ (32 ∷ z))))) (ap (shown a) (entries_joins p false x y) ∙ shown_joins a (shown_entries p false x) y)
      ∙ ap (λ z. parted first 59 (91 ∷ z)) (shown_joins k (93 ∷ (58 ∷ (32 ∷ w))) y)
      ∙ parted_joins first 59 (91 ∷ shown k (93 ∷ (58 ∷ (32 ∷ w)))) y
