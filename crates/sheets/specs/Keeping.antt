-- The steps of keeping a line.
use Rattle.std.specs.Prelude.{◌≡◌, ℕ, List, [], IfSome, Ok, Err, Option, Result}
use Rattle.displays.specs.declared.fault.DisplayFault.TheVariants as display
use Rattle.reading.specs.declared.fault.Fault.TheVariants.{Syntax, Limit}
use Rattle.sheets.specs.declared.fault.SheetFault.{SheetFault}
use Rattle.sheets.specs.declared.fault.SheetFault.TheVariants.{TooLong, Fields, Name, WrittenType, Taken, Full, Display, Conflict, Memory}
use Rattle.sheets.specs.Lines.{sheet_lines}
use Rattle.sheets.specs.Sheets.{Gives, NoContent, Line, Lines}
use Rattle.sheets.specs.Targets.{Declared, Whole}
use Rattle.std.specs.Option.{option_map}
use Rattle.types.specs.Model.{Ty}
use Rattle.types.specs.Types.{Of}
use Rattle.values.specs.declared.value.Value.{Value}
use Rattle.values.specs.Means.{val}

-- what a display of type y gives
abbrev pub Content : Ty → List ℕ → Result (Option Value) SheetFault → Type 0
Content y d (Ok o) = Gives y d (option_map val o) × IfSome (option_map val o) (Of y)
Content y d (Err TooLong) = ⊥
Content y d (Err Fields) = ⊥
Content y d (Err (Name f)) = ⊥
Content y d (Err (WrittenType f)) = ⊥
Content y d (Err Taken) = ⊥
Content y d (Err Full) = ⊥
Content y d (Err (Display (Syntax k))) = NoContent y d (display.Syntax k)
Content y d (Err (Display Limit)) = NoContent y d display.Limit
Content y d (Err Conflict) = NoContent y d display.Conflict
Content y d (Err Memory) = Unit {0}

-- the targets after a line; as they were if it is denied
abbrev pub KeptLine : List Declared → List ℕ → Result (Unit {0}) SheetFault → List Declared → Type 0
KeptLine ts l (Ok _) us = Line ts l (Ok us) × Whole us
KeptLine ts l (Err f) us = Line ts l (Err f) × (us ≡ ts)

-- the targets of a sheet
abbrev pub ReadSheet : List ℕ → Result (List Declared) SheetFault → Type 0
ReadSheet s (Ok ts) = Lines [] (sheet_lines s) (Ok ts) × Whole ts
ReadSheet s (Err f) = Lines [] (sheet_lines s) (Err f)
