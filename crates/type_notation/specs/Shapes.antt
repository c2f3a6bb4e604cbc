-- Reading types: what stands at a place, and what is left after it.
use Rattle.std.specs.Prelude.{◌≡◌, ℕ, ◌+◌, ◌<◌, ◌≤◌, true, List, [], ◌∷◌, ◌++◌, length, drop, Some, None, Ok, Err, Option, Result}
use Rattle.type_notation.specs.declared.shape.Shape.{Shape}
use Rattle.type_notation.specs.declared.shape.Shape.TheVariants.{Number, Text, Compound, List as Entries, Table}
use Rattle.reading.specs.Reading.{SameHead, Stuck}
use Rattle.type_notation.specs.TypeTexts.{depths}
use Rattle.types.specs.Texts.{count, type_text, type_texts, sound, sounds}
use Rattle.types.specs.Model.{Ty, Tys}

-- how many types a shape has under it
abbrev pub arity : Shape → ℕ
arity Number = 0
arity Text = 0
arity (Compound n) = n
arity Entries = 1
arity Table = 2

abbrev pub shape_text : Shape → List ℕ
shape_text Number = 110 ∷ []
shape_text Text = 116 ∷ []
shape_text (Compound n) = 99 ∷ ((48 + n) ∷ [])
shape_text Entries = 108 ∷ []
shape_text Table = 98 ∷ []

-- a compound has two to four fields
abbrev pub Shapely : Shape → Type 0
Shapely Number = Unit {0}
Shapely Text = Unit {0}
Shapely (Compound n) = (2 ≤ n) × (n ≤ 4)
Shapely Entries = Unit {0}
Shapely Table = Unit {0}

-- X begins with n types, one after the other, and Y is what follows
pub record Types (n : ℕ) (X Y : List ℕ) : Type 0 where
  pub types : Tys
  pub counts : count types ≡ n
  pub right : sounds types ≡ true
  pub shows : X ≡ type_texts types ++ Y

-- X begins with no type: some types begin with what stands before back, and none with the next byte too, whatever follows
pub record NoShape (X back : List ℕ) : Type 0 where
  pub front : List ℕ
  pub splits : X ≡ front ++ back
  pub more : (n : ℕ) → (Y : List ℕ) × Types (n + 1) (front ++ Y) []
  pub stop : (R : List ℕ) → SameHead back R → (n : ℕ) (rest : List ℕ) → Types n (front ++ R) rest → n ≡ 0

-- the number of fields at a place
abbrev pub CountAt : List ℕ → ℕ → Option ℕ → Type 0
CountAt s at None = (d : ℕ) (rest : List ℕ) → drop at s ≡ d ∷ rest → 50 ≤ d → d ≤ 52 → ⊥
CountAt s at (Some n) = (at < length s) × (drop at s ≡ (48 + n) ∷ drop (at + 1) s) × (2 ≤ n) × (n ≤ 4)

abbrev pub ShapeAt : List ℕ → ℕ → Result (Shape × ℕ) ℕ → Type 0
ShapeAt s at (Ok p) = (at < p.1) × (p.1 ≤ length s) × (drop at s ≡ shape_text p.0 ++ drop p.1 s) × Shapely p.0
ShapeAt s at (Err k) = (at ≤ k) × (at ≤ length s → k ≤ length s) × NoShape (drop at s) (drop k s)

-- X begins with the type t, and Y is what follows
abbrev pub GotType : List ℕ → Ty → List ℕ → Type 0
GotType X t Y = (sound t ≡ true) × (X ≡ type_text t ++ Y)

abbrev pub NoType : List ℕ → List ℕ → Type 0
NoType X back = Stuck (λ t. sound t ≡ true) (λ t rest. type_text t ++ rest) (λ _. Unit {0}) X back

-- where the type that begins a text ends
abbrev pub TypeEnd : List ℕ → Result ℕ ℕ → Type 0
TypeEnd s (Ok end) = (end ≤ length s) × ((t : Ty) × GotType s t (drop end s))
TypeEnd s (Err k) = (k ≤ length s) × NoType s (drop k s)

-- where n types stand, one after the other, they nest so deep, and end there
abbrev pub Nests : List ℕ → ℕ → ℕ → ℕ → ℕ → Type 0
Nests s at n deep end = (ts : Tys) (rest : List ℕ) → count ts ≡ n → sounds ts ≡ true → drop at s ≡ type_texts ts ++ rest → (deep ≡ depths ts) × (drop end s ≡ rest)

-- where a type stands, it is t, and ends there
abbrev pub Builds : List ℕ → ℕ → Ty → ℕ → Type 0
Builds s at t end = (u : Ty) (rest : List ℕ) → sound u ≡ true → drop at s ≡ type_text u ++ rest → (t ≡ u) × (drop end s ≡ rest)

-- the same of n types, one after the other
abbrev pub BuildsAll : List ℕ → ℕ → ℕ → Tys → ℕ → Type 0
BuildsAll s at n ts end = (us : Tys) (rest : List ℕ) → count us ≡ n → sounds us ≡ true → drop at s ≡ type_texts us ++ rest → (ts ≡ us) × (drop end s ≡ rest)
