-- What the lines of a sheet do.
use Rattle.std.specs.Prelude.{◌≡◌, ℕ, ◌<◌, ◌≤◌, Bool, true, false, ◌⊎◌, List, [], ◌∷◌, length, Some, None, Ok, Err, Option, Result, ◌≢◌, nat_le}
use Rattle.displays.specs.declared.fault.DisplayFault.{DisplayFault}
use Rattle.displays.specs.declared.fault.DisplayFault.TheVariants as display
use Rattle.displays.specs.Reads.{MeantBy, Meant}
use Rattle.notation.specs.Names.{NameForm, name_fits}
use Rattle.reading.specs.declared.fault.Fault.{Fault}
use Rattle.reading.specs.declared.fault.Fault.TheVariants.{Syntax, Limit}
use Rattle.reading.specs.Reading.{Answer}
use Rattle.sheets.specs.declared.fault.SheetFault.{SheetFault}
use Rattle.sheets.specs.declared.fault.SheetFault.TheVariants.{TooLong, Fields, Name, WrittenType, Taken, Full, Display, Conflict, Memory}
use Rattle.sheets.specs.Lines.{LineFields, three, split, sheet_lines}
use Rattle.sheets.specs.Targets.{Declared, Named, TypeIs, among, placed, Whole, sheet_text}
use Rattle.type_notation.specs.TypeTexts.{TypeForm, type_fits}
use Rattle.types.specs.Model.{Ty}
use Rattle.value_model.specs.Model.{Val}

-- s is no name, or too long for one; s is no type, or passes a limit
abbrev pub NoName : List ℕ → Fault → Type 0
NoName s f = Answer NameForm {X = Unit {0}} name_fits (λ _ _. Unit {0}) s (Err f)

abbrev pub NoType : List ℕ → Fault → Type 0
NoType s f = Answer TypeForm {X = Unit {0}} type_fits (λ _ _. Unit {0}) s (Err f)

-- the display d of type y gives the content: none if it is empty
abbrev pub Gives : Ty → List ℕ → Option Val → Type 0
Gives y d None = d ≡ []
Gives y d (Some v) = (d ≢ []) × MeantBy y d v

-- it is denied
abbrev pub NoContent : Ty → List ℕ → DisplayFault → Type 0
NoContent y d f = (d ≢ []) × Meant y d (Err f)

-- the fields declare a target of type y: name and type are right, the name is new, and there is room
pub record Declares (ts : List Declared) (p : LineFields) (y : Ty) : Type 0 where
  pub named : Named p.name
  pub typed : TypeIs y p.type
  pub new : among p.name ts ≡ false
  pub room : length ts < 16

-- what a line of three fields does to the targets: the new targets, or the first of its faults
abbrev pub Done : List Declared → LineFields → Result (List Declared) SheetFault → Type 0
Done ts p (Ok us) = (y : Ty) × Declares ts p y × (c : Option Val) × Gives y p.display c × (us ≡ placed (record { name = p.name; type = p.type; content = c }) ts)
Done ts p (Err TooLong) = ⊥
Done ts p (Err Fields) = ⊥
Done ts p (Err (Name f)) = NoName p.name f
Done ts p (Err (WrittenType f)) = Named p.name × NoType p.type f
Done ts p (Err Taken) = Named p.name × (y : Ty) × TypeIs y p.type × (among p.name ts ≡ true)
Done ts p (Err Full) = Named p.name × (y : Ty) × TypeIs y p.type × (among p.name ts ≡ false) × (16 ≤ length ts)
Done ts p (Err (Display (Syntax k))) = (y : Ty) × Declares ts p y × NoContent y p.display (display.Syntax k)
Done ts p (Err (Display Limit)) = (y : Ty) × Declares ts p y × NoContent y p.display display.Limit
Done ts p (Err Conflict) = (y : Ty) × Declares ts p y × NoContent y p.display display.Conflict
Done ts p (Err Memory) = Unit {0}

-- what any line does
abbrev pub DoneIf : List Declared → Option LineFields → Result (List Declared) SheetFault → Type 0
DoneIf ts None r = r ≡ Err Fields
DoneIf ts (Some p) r = Done ts p r

abbrev pub Line : List Declared → List ℕ → Result (List Declared) SheetFault → Type 0
Line ts l r = DoneIf ts (three (split 9 l)) r

-- what lines do in turn, up to the first that is denied
abbrev pub Lines : List Declared → List (List ℕ) → Result (List Declared) SheetFault → Type 0
Lines ts [] r = r ≡ Ok ts
Lines ts (l ∷ ls) (Ok us) = (ms : List Declared) × Line ts l (Ok ms) × Lines ms ls (Ok us)
Lines ts (l ∷ ls) (Err f) = Line ts l (Err f) ⊎ ((ms : List Declared) × Line ts l (Ok ms) × Lines ms ls (Err f))

-- what is written of the sheet
abbrev pub Writes : Result (List Declared) SheetFault → Result (List ℕ) SheetFault → Type 0
Writes (Ok ts) r = Whole ts × (r ≡ Ok (sheet_text ts))
Writes (Err f) r = r ≡ Err f

abbrev pub Within : List ℕ → Bool → Result (List ℕ) SheetFault → Type 0
Within s true r = (q : Result (List Declared) SheetFault) × Lines [] (sheet_lines s) q × Writes q r
Within s false r = r ≡ Err TooLong

-- the input begins with a sheet, which is written in order or denied; unless the input is too long, or memory is wanting
abbrev pub Settles : List ℕ → Result (List ℕ) SheetFault → Type 0
Settles s r = (r ≢ Err Memory) → Within s (nat_le (length s) 32768) r
