-- Sinks: what takes bytes one by one.
use Rattle.std.specs.Prelude.{◌≡◌, ℕ, ◌+◌, ◌-◌, ◌^◌, cond, List, length, min, nat_lt, slice_set}
use Rattle.std.specs.List.{fold}
use Rattle.writing.specs.declared.sinks.Area.{Area}
use Rattle.writing.specs.declared.sinks.Count.{Count}

-- a sink took the bytes that the display puts before the rest: after is what it is after one byte more
abbrev pub Takes : {S : Type 0} → (S → ℕ → S) → S → (List ℕ → List ℕ) → S → Type 0
Takes after old display new = (rest : List ℕ) → fold after new rest ≡ fold after old (display rest)

-- a count after one byte more
abbrev pub counted : Count → ℕ → Count
counted count byte = record { bytes = min (count.bytes + 1) (2 ^ 64 - 1) }

-- an area after one byte more
abbrev pub filled : Area → ℕ → Area
filled area byte = cond (nat_lt area.at (length area.bytes.now)) (record { bytes = record area.bytes { now = slice_set area.bytes.now area.at byte }; at = area.at + 1 }) area

-- an area that holds these bytes, with the place of the next
abbrev pub holding : Area → List ℕ → ℕ → Area
holding area bytes at = record { bytes = record area.bytes { now = bytes }; at = at }
