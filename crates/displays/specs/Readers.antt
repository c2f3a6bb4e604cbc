-- What the readers of values say. X is the text from where they begin, and Y from where they end.
use Rattle.std.specs.declared.alloc.Global.{Global}
use Rattle.std.specs.Prelude.{◌≡◌, ℕ, ◌<◌, ◌≤◌, Bool, true, ◌&&◌, List, length, drop, Ok, Err, Result, Vec}
use Rattle.displays.specs.declared.fault.DisplayFault.{DisplayFault}
use Rattle.displays.specs.declared.fault.DisplayFault.TheVariants.{Syntax, Limit, Conflict, Memory}
use Rattle.displays.specs.Forms.{Each}
use Rattle.displays.specs.Kinds.{Kind, values, Element, Types, TypedElement, shown_element, AfterElement, element_within, settled_element}
use Rattle.displays.specs.Settled.{each_settled, within}
use Rattle.reading.specs.declared.word.Word.{Word}
use Rattle.reading.specs.Reading.{Stuck}
use Rattle.types.specs.Model.{Ty, Tys}
use Rattle.values.specs.declared.value.Value.{Value}
use Rattle.values.specs.Means.{val, vals}
use Rattle.value_model.specs.Model.{Val, Vals, none, more}
use Rattle.writing.specs.Displays.{shown_items}

-- each value of a row keeps the limits
abbrev pub each_within : Vals → Bool
each_within none = true
each_within (more v r) = within v && each_within r

-- X begins with the display of an element, and x is that element, settled, if it keeps the limits
pub record GotElement (k : Kind) (t : Types k) (X : List ℕ) (x : Element k) (fits : Bool) (Y : List ℕ) : Type 0 where
  pub raw : Element k
  pub typed : TypedElement k t raw
  pub shows : X ≡ shown_element k raw Y
  pub after : AfterElement k t Y
  pub so : fits ≡ element_within k raw
  pub means : fits ≡ true → x ≡ settled_element k raw

abbrev pub NoElement : (k : Kind) → Types k → List ℕ → List ℕ → Type 0
NoElement k t X back = Stuck (TypedElement k t) (shown_element k) (AfterElement k t) X back

-- the same of a value
abbrev pub Got : Ty → List ℕ → Val → Bool → List ℕ → Type 0
Got = GotElement values

abbrev pub NoValue : Ty → List ℕ → List ℕ → Type 0
NoValue = NoElement values

-- the fields of a compound, up to its end
pub record GotFields (ts : Tys) (first : Bool) (X : List ℕ) (xs : Vals) (fits : Bool) (Y : List ℕ) : Type 0 where
  pub raws : Vals
  pub typed : Each ts raws
  pub shows : X ≡ shown_items raws first 44 41 Y
  pub so : fits ≡ each_within raws
  pub means : fits ≡ true → xs ≡ each_settled raws

abbrev pub NoFields : Tys → Bool → List ℕ → List ℕ → Type 0
NoFields ts first X back = Stuck (Each ts) (λ r rest. shown_items r first 44 41 rest) (λ _. Unit {0}) X back

-- a reader stopped: for a wrong byte, with what is wrong there, or for want of memory
abbrev pub Stopped : (List ℕ → List ℕ → Type 0) → List ℕ → ℕ → DisplayFault → Type 0
Stopped No s at (Syntax k) = (at ≤ k) × (at ≤ length s → k ≤ length s) × No (drop at s) (drop k s)
Stopped No s at Limit = ⊥
Stopped No s at Conflict = ⊥
Stopped No s at Memory = Unit {0}

-- an element was read, of which the code's items mean what they mean
abbrev pub ReadElement : {Item : Type 0} (k : Kind) → Types k → (Item → Element k) → List ℕ → ℕ → Result (Word Item) DisplayFault → Type 0
ReadElement k t means s at (Ok w) = (at < w.end) × (w.end ≤ length s) × GotElement k t (drop at s) (means w.value) w.fits (drop w.end s)
ReadElement k t means s at (Err f) = Stopped (NoElement k t) s at f

abbrev pub ReadValue : Ty → List ℕ → ℕ → Result (Word Value) DisplayFault → Type 0
ReadValue t = ReadElement values t val

abbrev pub ReadFields : Tys → Bool → List ℕ → ℕ → Result (Word (Vec Value Global)) DisplayFault → Type 0
ReadFields ts first s at (Ok w) = (at < w.end) × (w.end ≤ length s) × GotFields ts first (drop at s) (vals w.value.items) w.fits (drop w.end s)
ReadFields ts first s at (Err f) = Stopped (NoFields ts first) s at f
