-- What reading a display answers.
use Rattle.std.specs.Prelude.{◌≡◌, ℕ, true, false, List, Ok, Err, Result}
use Rattle.displays.specs.declared.fault.DisplayFault.{DisplayFault}
use Rattle.displays.specs.declared.fault.DisplayFault.TheVariants.{Syntax, Limit, Conflict, Memory}
use Rattle.displays.specs.Forms.{DisplayForm}
use Rattle.displays.specs.Settled.{settled, within, distinct}
use Rattle.reading.specs.Reading.{Written, Wrong}
use Rattle.types.specs.Model.{Ty}
use Rattle.types.specs.Types.{Of}
use Rattle.values.specs.declared.value.Value.{Value}
use Rattle.values.specs.Means.{val}
use Rattle.value_model.specs.Model.{Val}

-- s is the display of v alone, and v keeps the limits
pub record Kept (t : Ty) (s : List ℕ) (v : Val) : Type 0 where
  pub display : Written (DisplayForm t) s v
  pub limits : within v ≡ true

-- w is meant by the display s: it is settled, and no table of it has one key with two associates
pub record MeantBy (t : Ty) (s : List ℕ) (w : Val) : Type 0 where
  pub raw : Val
  pub kept : Kept t s raw
  pub once : distinct (settled raw) ≡ true
  pub means : w ≡ settled raw

-- s is a display that passes a limit
pub record Passing (t : Ty) (s : List ℕ) : Type 0 where
  pub raw : Val
  pub display : Written (DisplayForm t) s raw
  pub passes : within raw ≡ false

-- s is a display in which some table has one key with two associates
pub record Conflicting (t : Ty) (s : List ℕ) : Type 0 where
  pub raw : Val
  pub kept : Kept t s raw
  pub twice : distinct (settled raw) ≡ false

-- the value that is meant, or what is wrong
abbrev pub Meant : Ty → List ℕ → Result Value DisplayFault → Type 0
Meant t s (Ok x) = MeantBy t s (val x)
Meant t s (Err (Syntax k)) = Wrong (DisplayForm t) s k
Meant t s (Err Limit) = Passing t s
Meant t s (Err Conflict) = Conflicting t s
Meant t s (Err Memory) = Unit {0}

-- what is answered is of the type
abbrev pub Admitted : Ty → Result Value DisplayFault → Type 0
Admitted t (Ok x) = Of t (val x)
Admitted t (Err f) = Unit {0}

-- v is answered, if there is memory for it
abbrev pub ReadAs : Val → Result Value DisplayFault → Type 0
ReadAs v (Ok x) = val x ≡ v
ReadAs v (Err (Syntax k)) = ⊥
ReadAs v (Err Limit) = ⊥
ReadAs v (Err Conflict) = ⊥
ReadAs v (Err Memory) = Unit {0}
