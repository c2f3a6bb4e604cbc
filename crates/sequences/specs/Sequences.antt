-- The items of a value: of a text its characters, each as a text; of a list its entries; of a table its associates.
use Rattle.std.specs.Prelude.{ℕ, ◌-◌, ◌^◌, min, List, [], ◌∷◌, map, length, Some, None, Option}
use Rattle.std.specs.Option.{option_map}
use Rattle.value_model.specs.Model.{Val, Pairs, num, text, comp, list, table, empty, pair}
use Rattle.value_model.specs.Rows.{listed}

-- the text of one character
abbrev pub letter : ℕ → Val
letter c = text (c ∷ [])

abbrev pub associates : Pairs → List Val
associates empty = []
associates (pair k a p) = a ∷ associates p

abbrev pub items_of : Val → Option (List Val)
items_of (num n) = None
items_of (text s) = Some (map letter s)
items_of (comp r) = None
items_of (list r) = Some (listed r)
items_of (table p) = Some (associates p)

-- how many items there are, as far as a word counts
abbrev pub counted : Val → Option ℕ
counted v = option_map (λ vs. min (length vs) (2 ^ 64 - 1)) (items_of v)
