-- Types, as mathematics has them, and what a type of the code means.
use Rattle.std.specs.Prelude.{List, [], ◌∷◌}
use Rattle.types.specs.declared.value_type.ValueType.{ValueType, Number, Text, Compound', List', Table', Row_of-ValueType, end_of-ValueType, more_of-ValueType}

mutual
  pub data Ty : Type 0 where
    number : Ty
    texts : Ty
    comps : Tys → Ty
    lists : Ty → Ty
    tables : Ty → Ty → Ty

  pub data Tys : Type 0 where
    end : Tys
    also : Ty → Tys → Tys

abbrev mutual
  pub ty_of : ValueType → Ty
  ty_of Number = number
  ty_of Text = texts
  ty_of (Compound' c s r) = comps (row_tys r)
  ty_of (List' c t) = lists (ty_of t)
  ty_of (Table' c k a) = tables (ty_of k) (ty_of a)

  -- the row inside a type: it means what `tys_of` says of its items, by `ty_compound` of proofs/Shared
  pub row_tys : {n : _} → Row_of-ValueType n → Tys
  row_tys end_of-ValueType = end
  row_tys (more_of-ValueType t r) = also (ty_of t) (row_tys r)

-- the types of a row
abbrev pub tys_of : List ValueType → Tys
tys_of [] = end
tys_of (t ∷ ts) = also (ty_of t) (tys_of ts)
