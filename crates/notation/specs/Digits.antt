-- Reading numbers: what stands at a place, and what is left after it.
use Rattle.std.specs.Prelude.{◌≡◌, ℕ, ◌+◌, ◌<◌, ◌≤◌, Bool, true, List, [], ◌∷◌, ◌++◌, length, drop, ℤ, pos, ◌≤ℤ◌, Some, None, Ok, Err, Option, Result, nat_le}
use Rattle.reading.specs.declared.word.Word.{Word}
use Rattle.notation.specs.Numbers.{nat, int}
use Rattle.reading.specs.Reading.{Stuck}
use Rattle.types.specs.Types.{bounded}

abbrev pub Digit : ℕ → Type 0
Digit c = (48 ≤ c) × (c ≤ 57)

-- what may follow a number
abbrev pub NoDigit : List ℕ → Type 0
NoDigit [] = Unit {0}
NoDigit (c ∷ cs) = Digit c → ⊥

-- the digit at a place
abbrev pub DigitAt : List ℕ → ℕ → Option ℕ → Type 0
DigitAt s at None = NoDigit (drop at s)
DigitAt s at (Some d) = (at < length s) × (drop at s ≡ (48 + d) ∷ drop (at + 1) s) × (d < 10)

-- v is the number n, if that is within the bound
pub record Capped (n : ℕ) (v : ℤ) (fits : Bool) : Type 0 where
  pub within : fits ≡ nat_le n 999999999
  pub means : n ≤ 999999999 → v ≡ pos n
  pub positive : pos 0 ≤ℤ v
  pub small : v ≤ℤ pos 999999999

-- X begins with a number without a sign, and Y is what follows
pub record GotNat (X : List ℕ) (v : ℤ) (fits : Bool) (Y : List ℕ) : Type 0 where
  pub n : ℕ
  pub shows : X ≡ nat n ++ Y
  pub after : NoDigit Y
  pub so : Capped n v fits

pub record GotNumber (X : List ℕ) (v : ℤ) (fits : Bool) (Y : List ℕ) : Type 0 where
  pub z : ℤ
  pub shows : X ≡ int z ++ Y
  pub after : NoDigit Y
  pub within : fits ≡ bounded z
  pub means : fits ≡ true → v ≡ z

abbrev pub NoNat : List ℕ → List ℕ → Type 0
NoNat X back = Stuck (λ (n : ℕ). Unit {0}) (λ n rest. nat n ++ rest) NoDigit X back

abbrev pub NoNumber : List ℕ → List ℕ → Type 0
NoNumber X back = Stuck (λ (z : ℤ). Unit {0}) (λ z rest. int z ++ rest) NoDigit X back

abbrev pub ReadNat : List ℕ → ℕ → Result (Word ℤ) ℕ → Type 0
ReadNat s at (Ok w) = (at < w.end) × (w.end ≤ length s) × GotNat (drop at s) w.value w.fits (drop w.end s)
ReadNat s at (Err k) = (at ≤ k) × (at ≤ length s → k ≤ length s) × NoNat (drop at s) (drop k s)

abbrev pub ReadNumber : List ℕ → ℕ → Result (Word ℤ) ℕ → Type 0
ReadNumber s at (Ok w) = (at < w.end) × (w.end ≤ length s) × GotNumber (drop at s) w.value w.fits (drop w.end s)
ReadNumber s at (Err k) = (at ≤ k) × (at ≤ length s → k ≤ length s) × NoNumber (drop at s) (drop k s)
