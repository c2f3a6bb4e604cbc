-- The two kinds of rows, and what stands in them: values in lists, and entries in tables.
use Rattle.std.specs.Prelude.{ℕ, Bool, ◌&&◌, List, [], ◌∷◌}
use Rattle.displays.specs.Forms.{Typed}
use Rattle.displays.specs.Settled.{settled, within}
use Rattle.lists.specs.Lists.{inserted}
use Rattle.notation.specs.Digits.{NoDigit}
use Rattle.notation.specs.Quotes.{NoQuote}
use Rattle.tables.specs.Entries.{Entry, entry}
use Rattle.tables.specs.Tables.{added}
use Rattle.types.specs.Model.{Ty, number, texts, comps, lists, tables}
use Rattle.value_model.specs.Model.{Val, Vals, Pairs, empty, pair, list, table}
use Rattle.value_model.specs.Rows.{row_of}
use Rattle.value_model.specs.Sizes.{sizes, pair_sizes}
use Rattle.writing.specs.Displays.{shown}

-- ---- values

-- what may follow a value of a type
abbrev pub After : Ty → List ℕ → Type 0
After number rest = NoDigit rest
After texts rest = NoQuote rest
After (comps ts) rest = Unit {0}
After (lists t) rest = Unit {0}
After (tables k a) rest = Unit {0}

-- ---- entries

-- an entry of a table as it is written, and then the rest
abbrev pub shown_entry : Entry → List ℕ → List ℕ
shown_entry (entry k a) rest = 91 ∷ shown k (93 ∷ (58 ∷ (32 ∷ shown a rest)))

abbrev pub TypedEntry : Ty → Ty → Entry → Type 0
TypedEntry t u (entry k a) = Typed t k × Typed u a

abbrev pub entry_within : Entry → Bool
entry_within (entry k a) = within k && within a

abbrev pub settled_entry : Entry → Entry
settled_entry (entry k a) = entry (settled k) (settled a)

abbrev pub with_entry : Entry → Pairs → Pairs
with_entry (entry k a) p = added k a p

abbrev pub pairs_of : List Entry → Pairs
pairs_of [] = empty
pairs_of (entry k a ∷ es) = pair k a (pairs_of es)

-- ---- both

pub data Kind : Type 0 where
  values : Kind
  entries : Kind

-- what stands in a row, what it is of, and the rows
abbrev pub Element : Kind → Type 0
Element values = Val
Element entries = Entry

abbrev pub Types : Kind → Type 0
Types values = Ty
Types entries = Ty × Ty

abbrev pub Row : Kind → Type 0
Row values = Vals
Row entries = Pairs

-- the right elements for some types, how they are written, and what may follow them
abbrev pub TypedElement : (k : Kind) → Types k → Element k → Type 0
TypedElement values t v = Typed t v
TypedElement entries t e = TypedEntry t.0 t.1 e

abbrev pub shown_element : (k : Kind) → Element k → List ℕ → List ℕ
shown_element values v rest = shown v rest
shown_element entries e rest = shown_entry e rest

abbrev pub AfterElement : (k : Kind) → Types k → List ℕ → Type 0
AfterElement values t rest = After t rest
AfterElement entries t rest = After t.1 rest

-- whether an element keeps the limits, and the element that is meant
abbrev pub element_within : (k : Kind) → Element k → Bool
element_within values v = within v
element_within entries e = entry_within e

abbrev pub settled_element : (k : Kind) → Element k → Element k
settled_element values v = settled v
settled_element entries e = settled_entry e

-- the type of the rows, and the value that is a row
abbrev pub row_type : (k : Kind) → Types k → Ty
row_type values t = lists t
row_type entries t = tables t.0 t.1

abbrev pub row_value : (k : Kind) → Row k → Val
row_value values r = list r
row_value entries p = table p

-- the row of some elements
abbrev pub made : (k : Kind) → List (Element k) → Row k
made values vs = row_of vs
made entries es = pairs_of es

-- the row with an element among the others, and the sizes of the elements together
abbrev pub with_element : (k : Kind) → Element k → Row k → Row k
with_element values v r = inserted v r
with_element entries e p = with_entry e p

abbrev pub row_sizes : (k : Kind) → Row k → ℕ
row_sizes values r = sizes r
row_sizes entries p = pair_sizes p
