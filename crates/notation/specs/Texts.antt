-- How a text is written: between single quotes, with each single quote and back quote doubled.
use Rattle.std.specs.Prelude.{◌≡◌, ℕ, Bool, true, cond, ◌||◌, List, [], ◌∷◌, length, ◌==◌, nat_le}
use Rattle.types.specs.Types.{printables}

-- the codes that stand doubled
abbrev pub twice : ℕ → Bool
twice c = c == 39 || c == 96

-- the code c as it stands in a text, and then the rest
abbrev pub step : ℕ → List ℕ → List ℕ
step c rest = cond (twice c) (c ∷ (c ∷ rest)) (c ∷ rest)

abbrev pub inner : List ℕ → List ℕ → List ℕ
inner [] rest = rest
inner (c ∷ cs) rest = step c (inner cs rest)

-- the text as it is written
abbrev pub quoted : List ℕ → List ℕ
quoted t = 39 ∷ inner t (39 ∷ [])

-- the codes of a text can be printed
abbrev pub Printed : List ℕ → Type 0
Printed t = printables t ≡ true

abbrev pub TextForm : List ℕ → List ℕ → Type 0
TextForm t s = Printed t × (quoted t ≡ s)

-- a text of 255 characters has size 256
abbrev pub text_fits : List ℕ → Bool
text_fits t = nat_le (length t) 255
