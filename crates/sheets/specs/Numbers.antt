-- The numbers of denials.
use Rattle.std.specs.Prelude.{ℕ, Some, None, Option}
use Rattle.displays.specs.declared.fault.DisplayFault.{DisplayFault}
use Rattle.displays.specs.declared.fault.DisplayFault.TheVariants as display
use Rattle.reading.specs.declared.fault.Fault.{Fault}
use Rattle.reading.specs.declared.fault.Fault.TheVariants.{Syntax, Limit}
use Rattle.sheets.specs.declared.fault.SheetFault.{SheetFault}
use Rattle.sheets.specs.declared.fault.SheetFault.TheVariants.{TooLong, Fields, Name, WrittenType, Taken, Full, Display, Conflict, Memory}

-- a wrong form is 5, a limit that is passed 2
abbrev pub fault_number : Fault → ℕ
fault_number (Syntax k) = 5
fault_number Limit = 2

abbrev pub number : SheetFault → Option ℕ
number TooLong = Some 2
number Fields = Some 4
number (Name f) = Some (fault_number f)
number (WrittenType f) = Some (fault_number f)
number Taken = Some 10
number Full = Some 11
number (Display f) = Some (fault_number f)
number Conflict = Some 27
number Memory = None

-- faults of displays as faults of sheets
abbrev pub display_fault : DisplayFault → SheetFault
display_fault (display.Syntax k) = Display (Syntax k)
display_fault display.Limit = Display Limit
display_fault display.Conflict = Conflict
display_fault display.Memory = Memory
