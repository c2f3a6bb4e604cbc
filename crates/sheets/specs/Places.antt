-- The place of a new name among targets in order.
use Rattle.std.specs.Prelude.{◌≡◌, ℕ, ◌<◌, ◌≤◌, true, false, List, length, Ok, Err, Result}
use Rattle.search.specs.Search.{rank}
use Rattle.sheets.specs.declared.fault.SheetFault.{SheetFault}
use Rattle.sheets.specs.declared.fault.SheetFault.TheVariants.{TooLong, Fields, Name, WrittenType, Taken, Full, Display, Conflict, Memory}
use Rattle.sheets.specs.Targets.{Declared, by_code, names, among}

abbrev pub FreePlace : List Declared → List ℕ → Result ℕ SheetFault → Type 0
FreePlace ts n (Ok i) = (among n ts ≡ false) × (length ts < 16) × (i ≡ rank by_code n (names ts)) × (i ≤ length ts)
FreePlace ts n (Err TooLong) = ⊥
FreePlace ts n (Err Fields) = ⊥
FreePlace ts n (Err (Name f)) = ⊥
FreePlace ts n (Err (WrittenType f)) = ⊥
FreePlace ts n (Err Taken) = among n ts ≡ true
FreePlace ts n (Err Full) = (among n ts ≡ false) × (16 ≤ length ts)
FreePlace ts n (Err (Display f)) = ⊥
FreePlace ts n (Err Conflict) = ⊥
FreePlace ts n (Err Memory) = ⊥
