-- The display of a value: how it is written. `shown v rest` is the display of v, and then the rest.
use Rattle.std.specs.Prelude.{ℕ, Bool, true, false, List, [], ◌∷◌, ◌++◌}
use Rattle.notation.specs.Numbers.{int}
use Rattle.notation.specs.Texts.{inner}
use Rattle.value_model.specs.Model.{Val, Vals, Pairs, num, text, comp, list, table, none, more, empty, pair}

-- what follows the first of a row stands behind the byte sep and a blank
abbrev pub parted : Bool → ℕ → List ℕ → List ℕ
parted true sep x = x
parted false sep x = sep ∷ (32 ∷ x)

abbrev mutual
  pub shown : Val → List ℕ → List ℕ
  shown (num z) rest = int z ++ rest
  shown (text s) rest = 39 ∷ inner s (39 ∷ rest)
  shown (comp r) rest = 40 ∷ shown_items r true 44 41 rest
  shown (list r) rest = 123 ∷ shown_items r true 59 125 rest
  shown (table p) rest = 123 ∷ shown_entries p true rest

  -- the values of a row, the first of them first, parted by sep, and then the byte close
  pub shown_items : Vals → Bool → ℕ → ℕ → List ℕ → List ℕ
  shown_items none first sep close rest = close ∷ rest
  shown_items (more v r) first sep close rest = parted first sep (shown v (shown_items r false sep close rest))

  -- the entries of a table, each as [key]: associate, and then }
  pub shown_entries : Pairs → Bool → List ℕ → List ℕ
  shown_entries empty first rest = 125 ∷ rest
  shown_entries (pair k a p) first rest = parted first 59 (91 ∷ shown k (93 ∷ (58 ∷ (32 ∷ shown a (shown_entries p false rest)))))

abbrev pub written : Val → List ℕ
written v = shown v []
