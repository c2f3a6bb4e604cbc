-- What a type with a row means, by the items of the row.
use Rattle.std.proofs.Common.{◌≡◌, false, ◌&&◌, List, [], ◌∷◌, length, refl, sym, ap, ◌∙◌, Vec, Global, arith}
use Rattle.std.proofs.Math.Bool.{and-false}
use mathlib.Core.Former.{Count}
use Rattle.std.specs.declared.rc.Rc.{Rc}
use Rattle.types.specs.declared.value_type.ValueType.{ValueType, Compound, Compound', Row_of-ValueType, end_of-ValueType, more_of-ValueType, items-the_row-ValueType, items_hidden-the_row-ValueType-0}
use Rattle.types.specs.Model.{ty_of, tys_of, row_tys, comps, also}
use Rattle.types.specs.Types.{formed, each_formed}
use Rattle.values.specs.declared.value.Value.{Value}
use Rattle.values.specs.Means.{val, vals}

tys_row : (n : _) (r : Row_of-ValueType n) → row_tys r ≡ tys_of (items-the_row-ValueType n r)
tys_row n end_of-ValueType = refl
tys_row n (more_of-ValueType t r) = ap (also (ty_of t)) (tys_row _ r)

abbrev row_in : ValueType → (n : Count) × Row_of-ValueType n
row_in (Compound' c s r) = (_, r)
row_in t = (_, end_of-ValueType)

pub ty_compound : (fields : Rc (Vec ValueType Global) Global) → ty_of (Compound fields) ≡ comps (tys_of fields.value.items)
ty_compound fields =
    let r = row_in (Compound fields) in
    ap comps (tys_row r.0 r.1 ∙ ap tys_of (items_hidden-the_row-ValueType-0 fields.value))

-- a compound has as many fields as its type
pub as_many : (vs : List Value) (ts : List ValueType) → (length vs ≡ length ts → ⊥) → false ≡ each_formed (vals vs) (tys_of ts)
as_many [] [] h = absurd (h refl)
as_many [] (t ∷ ts) h = refl
as_many (v ∷ vs) [] h = refl
as_many (v ∷ vs) (t ∷ ts) h =
    let i = as_many vs ts (λ e. h (omega (arith, e))) in
    sym (and-false (formed (val v) (ty_of t))) ∙ ap (◌&&◌ (formed (val v) (ty_of t))) i
