-- What a display may write for a type: a value with rows in any order, keys more than once, numbers of any length, of any size.
use Rattle.std.specs.Prelude.{◌≡◌, ℕ, List, ℤ}
use Rattle.notation.specs.Texts.{Printed}
use Rattle.types.specs.Model.{Ty, Tys, number, texts, comps, lists, tables, end, also}
use Rattle.value_model.specs.Model.{Val, Vals, Pairs, num, text, comp, list, table, none, more, empty, pair}
use Rattle.writing.specs.Displays.{written}

mutual
  pub data Typed : Ty → Val → Type 0 where
    is_number : (z : ℤ) → Typed number (num z)
    is_text : (s : List ℕ) → Printed s → Typed texts (text s)
    is_comp : {ts : Tys} {r : Vals} → Each ts r → Typed (comps ts) (comp r)
    is_list : {t : Ty} {r : Vals} → Alls t r → Typed (lists t) (list r)
    is_table : {k a : Ty} {p : Pairs} → Both k a p → Typed (tables k a) (table p)

  -- one value for each type
  pub data Each : Tys → Vals → Type 0 where
    each_end : Each end none
    each_also : {t : Ty} {ts : Tys} {v : Val} {r : Vals} → Typed t v → Each ts r → Each (also t ts) (more v r)

  -- values of one type
  pub data Alls : Ty → Vals → Type 0 where
    alls_none : {t : Ty} → Alls t none
    alls_more : {t : Ty} {v : Val} {r : Vals} → Typed t v → Alls t r → Alls t (more v r)

  -- keys of one type with associates of another
  pub data Both : Ty → Ty → Pairs → Type 0 where
    both_empty : {k a : Ty} → Both k a empty
    both_pair : {k a : Ty} {v w : Val} {p : Pairs} → Typed k v → Typed a w → Both k a p → Both k a (pair v w p)

-- s is the display of v, for the type t
abbrev pub DisplayForm : Ty → Val → List ℕ → Type 0
DisplayForm t v s = Typed t v × (written v ≡ s)
