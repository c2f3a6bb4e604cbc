-- How a type is written: n for a number, t for a text, c with the number of fields and their types, l with the type of the
-- entries, b with the types of key and associate.
use Rattle.std.specs.Prelude.{ℕ, ◌+◌, Bool, true, ◌&&◌, List, [], ◌∷◌, ◌++◌, nat_le}
use Rattle.types.specs.Model.{Ty, Tys, number, texts, comps, lists, tables, end, also}

abbrev pub count : Tys → ℕ
count end = 0
count (also t ts) = 1 + count ts

abbrev mutual
  pub type_text : Ty → List ℕ
  type_text number = 110 ∷ []
  type_text texts = 116 ∷ []
  type_text (comps ts) = 99 ∷ ((48 + count ts) ∷ type_texts ts)
  type_text (lists t) = 108 ∷ type_text t
  type_text (tables k a) = 98 ∷ (type_text k ++ type_text a)

  pub type_texts : Tys → List ℕ
  type_texts end = []
  type_texts (also t ts) = type_text t ++ type_texts ts

-- each compound has two to four fields
abbrev mutual
  pub sound : Ty → Bool
  sound number = true
  sound texts = true
  sound (comps ts) = (nat_le 2 (count ts) && nat_le (count ts) 4) && sounds ts
  sound (lists t) = sound t
  sound (tables k a) = sound k && sound a

  pub sounds : Tys → Bool
  sounds end = true
  sounds (also t ts) = sound t && sounds ts
