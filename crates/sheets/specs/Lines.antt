-- The lines of a sheet, and their fields.
use Rattle.std.specs.Prelude.{ℕ, List, [], ◌∷◌, Some, None, Option, ◌==◌}
use Rattle.sheets.specs.declared.fields.Fields.{Fields}
use Rattle.std.specs.List.{slice_split}

-- the pieces of a text that the bytes b part: one more than there are such bytes
abbrev pub split : ℕ → List ℕ → List (List ℕ)
split b = slice_split (λ c. c == b)

-- the pieces before the first empty one
abbrev pub until_empty : List (List ℕ) → List (List ℕ)
until_empty [] = []
until_empty ([] ∷ ls) = []
until_empty ((c ∷ l) ∷ ls) = (c ∷ l) ∷ until_empty ls

-- the lines of a sheet: those before the first empty line; the last may want its newline
abbrev pub sheet_lines : List ℕ → List (List ℕ)
sheet_lines s = until_empty (split 10 s)

-- the fields of a line: a name, a type and a display, as they are written
pub record LineFields : Type 0 where
  pub name : List ℕ
  pub type : List ℕ
  pub display : List ℕ

abbrev pub three : List (List ℕ) → Option LineFields
three [] = None
three (a ∷ []) = None
three (a ∷ (b ∷ [])) = None
three (a ∷ (b ∷ (c ∷ []))) = Some (record { name = a; type = b; display = c })
three (a ∷ (b ∷ (c ∷ (d ∷ r)))) = None

abbrev pub fields_of : Fields → LineFields
fields_of p = record { name = p.name.now; type = p.written_type.now; display = p.display.now }
