-- Parts of texts, and what keeps a text a value.
use Rattle.std.specs.Prelude.{ℕ, ◌+◌, ◌-◌, ◌≤◌, cond, ◌&&◌, List, length, take, drop, ℤ, pos, Some, None, Option, int_le, unsigned_abs}
use Rattle.types.specs.Model.{texts}
use Rattle.types.specs.Types.{Of}
use Rattle.value_model.specs.Model.{Val, text}
use Rattle.value_model.specs.Sizes.{size}

-- the characters from the first-th on, counted from 1; first is 1 to one more than the length, and else there is nothing
abbrev pub suffix : List ℕ → ℤ → Option (List ℕ)
suffix s first = cond (int_le (pos 1) first && int_le first (pos (length s + 1))) (Some (drop (unsigned_abs first - 1) s)) None

-- the first count characters; count is 0 to the length, and else there is nothing
abbrev pub prefix : List ℕ → ℤ → Option (List ℕ)
prefix s count = cond (int_le (pos 0) count && int_le count (pos (length s))) (Some (take (unsigned_abs count) s)) None

-- v, of the characters of two texts, is a text if they are and it is not too long
abbrev pub KeepsBoth : List ℕ → List ℕ → Val → Type 0
KeepsBoth s t v = Of texts (text s) → Of texts (text t) → size v ≤ 256 → Of texts v

-- v, of characters of a text, is a text if that is one
abbrev pub KeepsPart : List ℕ → Val → Type 0
KeepsPart s v = Of texts (text s) → Of texts v
