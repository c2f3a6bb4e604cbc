-- Declared targets, in ascending order of name.
use Rattle.std.specs.Prelude.{◌≡◌, ℕ, ◌≤◌, Bool, true, cond, ◌&&◌, List, [], ◌∷◌, ◌++◌, map, length, IfSome, Some, None, Option}
use Rattle.std.specs.declared.cmp.Ordering.{Ordering}
use Rattle.notation.specs.Names.{named, name_fits}
use Rattle.search.specs.Search.{occurs}
use Rattle.sheets.specs.declared.target.Target.{Target}
use Rattle.std.specs.Cmp.Lexicographic.{slice_cmp}
use Rattle.std.specs.Option.{option_map}
use Rattle.std.specs.Ordering.{is_lt, nat_cmp}
use Rattle.std.specs.List.{flat_map, AllByRecursion}
use Rattle.type_notation.specs.TypeTexts.{TypeForm, type_fits}
use Rattle.types.specs.Model.{Ty}
use Rattle.types.specs.Types.{Of}
use Rattle.values.specs.Means.{val}
use Rattle.value_model.specs.Model.{Val}
use Rattle.writing.specs.Displays.{written}

-- a target: its name, its type as it is written, and its content or none
pub record Declared : Type 0 where
  pub name : List ℕ
  pub type : List ℕ
  pub content : Option Val

abbrev pub target_of : Target → Declared
target_of t = record { name = t.name.now; type = t.written_type.now; content = option_map val t.content }

-- names compare by the codes of their characters
abbrev pub by_code : List ℕ → List ℕ → Ordering
by_code = slice_cmp nat_cmp

abbrev pub names : List Declared → List (List ℕ)
names = map (λ t. t.name)

-- whether a name is among those of the targets
abbrev pub among : List ℕ → List Declared → Bool
among n ts = occurs by_code n (names ts)

-- the targets with one more, at the place of its name
abbrev pub placed : Declared → List Declared → List Declared
placed t [] = t ∷ []
placed t (u ∷ us) = cond (is_lt (by_code u.name t.name)) (u ∷ placed t us) (t ∷ (u ∷ us))

-- ---- targets that are as they should be

abbrev pub Named : List ℕ → Type 0
Named s = (named s ≡ true) × (name_fits s ≡ true)

-- s is how the type y is written, and y keeps its limits
abbrev pub TypeIs : Ty → List ℕ → Type 0
TypeIs y s = TypeForm y s × (type_fits y ≡ true)

pub record Sound (t : Declared) : Type 0 where
  pub named : Named t.name
  pub type_of : Ty
  pub typed : TypeIs type_of t.type
  pub holds : IfSome t.content (Of type_of)

-- each name is below the next
abbrev pub leads : List ℕ → List Declared → Bool
leads n [] = true
leads n (u ∷ us) = is_lt (by_code n u.name)

abbrev pub ascending : List Declared → Bool
ascending [] = true
ascending (t ∷ ts) = leads t.name ts && ascending ts

-- at most sixteen targets in order of name, each with a right name and type, and a content of that type or none
pub record Whole (ts : List Declared) : Type 0 where
  pub few : length ts ≤ 16
  pub ordered : ascending ts ≡ true
  pub sound : AllByRecursion Sound ts

-- ---- the text of a sheet

abbrev pub content_text : Option Val → List ℕ
content_text None = []
content_text (Some v) = written v

-- name, tab, type, tab, display or nothing, newline
abbrev pub target_text : Declared → List ℕ
target_text t = t.name ++ 9 ∷ [] ++ t.type ++ 9 ∷ [] ++ content_text t.content ++ 10 ∷ []

abbrev pub sheet_text : List Declared → List ℕ
sheet_text = flat_map target_text
