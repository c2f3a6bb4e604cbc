-- Writing into an area: what it holds afterwards.
use Rattle.std.specs.Prelude.{◌≡◌, ℕ, ◌+◌, ◌≤◌, List, ◌++◌, length, take, drop, Some, None, Option}

-- the area with the bytes from the place on; those before and after are as they were
abbrev pub overwritten : List ℕ → ℕ → List ℕ → List ℕ
overwritten area at bytes = take at area ++ (bytes ++ drop (at + length bytes) area)

-- bytes were written from the place on, up to the place end
pub record Wrote (before after : List ℕ) (at : ℕ) (bytes : List ℕ) (end : ℕ) : Type 0 where
  pub ends : end ≡ at + length bytes
  pub holds : after ≡ overwritten before at bytes

-- bytes were written, if there was room for them; else the area is as it was
abbrev pub WroteIf : List ℕ → List ℕ → ℕ → List ℕ → Option ℕ → Type 0
WroteIf before after at bytes None = (after ≡ before) × (at + length bytes ≤ length before → ⊥)
WroteIf before after at bytes (Some end) = (at + length bytes ≤ length before) × Wrote before after at bytes end
