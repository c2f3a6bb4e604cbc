-- The fields of compounds, and their types.
use Rattle.std.specs.Prelude.{ℕ, ◌≤◌, List, [], ◌∷◌, Some, None, Option}
use Rattle.std.specs.List.{slice_get}
use Rattle.types.specs.Model.{Ty, Tys, comps, end, also}
use Rattle.types.specs.Types.{Of}
use Rattle.value_model.specs.Model.{Val, Vals, comp}
use Rattle.value_model.specs.Sizes.{size}

abbrev pub field_types : Tys → List Ty
field_types end = []
field_types (also t ts) = t ∷ field_types ts

-- each value is of the type of its field
abbrev pub EachOf : Tys → List Val → Type 0
EachOf end [] = Unit {0}
EachOf end (v ∷ vs) = ⊥
EachOf (also t ts) [] = ⊥
EachOf (also t ts) (v ∷ vs) = Of t v × EachOf ts vs

-- the row of the values is a compound of every type that their types make, if the size allows
abbrev pub Compounded : List Val → Vals → Type 0
Compounded vs q = (ts : Tys) → EachOf ts vs → size (comp q) ≤ 256 → Of (comps ts) (comp q)

-- a value of the type, or neither
abbrev pub OfBoth : Option Ty → Option Val → Type 0
OfBoth None None = Unit {0}
OfBoth None (Some v) = ⊥
OfBoth (Some t) None = ⊥
OfBoth (Some t) (Some v) = Of t v

-- in a compound of a type, a field is there exactly where the type has one, and is of its type
abbrev pub FieldAt : Vals → ℕ → Option Val → Type 0
FieldAt r i o = (ts : Tys) → Of (comps ts) (comp r) → OfBoth (slice_get (field_types ts) i) o
