-- What stands at a place of a text, where `drop at s` is the text from there on.
use Rattle.std.specs.Prelude.{◌≡◌, ℕ, ◌+◌, ◌<◌, ◌≤◌, List, [], ◌∷◌, ◌++◌, length, drop, Some, None, Option, ◌≢◌}

-- the byte at a place
abbrev pub Byte : List ℕ → ℕ → Option ℕ → Type 0
Byte s at None = drop at s ≡ []
Byte s at (Some b) = (at < length s) × (drop at s ≡ b ∷ drop (at + 1) s)

-- a byte stands at a place, or it does not
abbrev pub Here : List ℕ → ℕ → ℕ → Type 0
Here s at b = (at < length s) × (drop at s ≡ b ∷ drop (at + 1) s)

abbrev pub NotHere : List ℕ → ℕ → ℕ → Type 0
NotHere s at b = (rest : List ℕ) → drop at s ≢ b ∷ rest

-- a mark stands at a place, up to the place end
abbrev pub Stands : List ℕ → ℕ → List ℕ → ℕ → Type 0
Stands s at mark end = (at ≤ end) × (at ≤ length s → end ≤ length s) × (drop at s ≡ mark ++ drop end s)

-- only a beginning of a mark stands there, up to the place end, and the next byte of the mark does not
pub record Off (s : List ℕ) (at : ℕ) (mark : List ℕ) (end : ℕ) : Type 0 where
  pub low : at ≤ end
  pub high : at ≤ length s → end ≤ length s
  pub lead : List ℕ
  pub next : ℕ
  pub tail : List ℕ
  pub parts : mark ≡ lead ++ (next ∷ tail)
  pub shares : drop at s ≡ lead ++ drop end s
  pub stop : (rest : List ℕ) → drop end s ≢ next ∷ rest
