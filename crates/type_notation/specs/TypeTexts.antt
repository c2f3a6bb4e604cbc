-- Which texts are types, and the limits of a type.
use Rattle.std.specs.Prelude.{◌≡◌, ℕ, ◌+◌, max, Bool, true, ◌&&◌, List, length, nat_le}
use Rattle.types.specs.Model.{Ty, Tys, number, texts, comps, lists, tables, end, also}
use Rattle.types.specs.Texts.{type_text, sound}

-- how deep a type nests; a number and a text are 1 deep
abbrev mutual
  pub depth : Ty → ℕ
  depth number = 1
  depth texts = 1
  depth (comps ts) = 1 + depths ts
  depth (lists t) = 1 + depth t
  depth (tables k a) = 1 + max (depth k) (depth a)

  pub depths : Tys → ℕ
  depths end = 0
  depths (also t ts) = max (depth t) (depths ts)

abbrev pub TypeForm : Ty → List ℕ → Type 0
TypeForm t s = (sound t ≡ true) × (type_text t ≡ s)

-- at most 16 characters, at most 4 deep
abbrev pub type_fits : Ty → Bool
type_fits t = nat_le (length (type_text t)) 16 && nat_le (depth t) 4
