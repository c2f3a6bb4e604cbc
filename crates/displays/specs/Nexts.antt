-- What stands next in a list or table.
use Rattle.std.specs.Prelude.{◌≡◌, ℕ, ◌<◌, ◌≤◌, Bool, false, List, [], ◌∷◌, length, drop, Ok, Err, Result}
use Rattle.displays.specs.declared.next.Next.{Next}
use Rattle.displays.specs.declared.next.Next.TheVariants.{Entry, End}
use Rattle.reading.specs.Bytes.{NotHere, Off}
use Rattle.writing.specs.Displays.{parted}

-- a row opens at a place; its first entry stands next, or its end, or none opens there
abbrev pub Opens : List ℕ → ℕ → Result Next ℕ → Type 0
Opens s at (Ok (Entry i)) = (at < i) × (i ≤ length s) × (drop at s ≡ 123 ∷ drop i s) × NotHere s i 125
Opens s at (Ok (End e)) = (at < e) × (e ≤ length s) × (drop at s ≡ 123 ∷ (125 ∷ drop e s))
Opens s at (Err k) = Off s at (123 ∷ []) k

-- behind an entry one more stands next, or the row's end, or neither
abbrev pub Goes : List ℕ → ℕ → Result Next ℕ → Type 0
Goes s at (Ok (Entry i)) = (at < i) × (i ≤ length s) × (drop at s ≡ 59 ∷ (32 ∷ drop i s))
Goes s at (Ok (End e)) = (at < e) × (e ≤ length s) × (drop at s ≡ 125 ∷ drop e s)
Goes s at (Err k) = Off s at (59 ∷ (32 ∷ [])) k × NotHere s at 125

-- a field of a compound begins behind what parts it from the one before, or nothing parts them
abbrev pub Parts : List ℕ → ℕ → Bool → Result ℕ ℕ → Type 0
Parts s at first (Ok i) = (at ≤ i) × (at ≤ length s → i ≤ length s) × (drop at s ≡ parted first 44 (drop i s))
Parts s at first (Err k) = (first ≡ false) × Off s at (44 ∷ (32 ∷ [])) k
