-- Which answer of a reader was mapped to a fault, or passed on.
use Rattle.std.proofs.Common.{◌≡◌, ℕ, Ok, Err, Result, MatchResult, refl}
use Rattle.reading.specs.declared.fault.Fault.{Fault}

module _ {X : Type 0} {Q : ℕ → Type 0} where
  pub was_ok : (r : Result X ℕ) (w : X) → MatchResult r (λ x. ◌≡◌ {A = Result X Fault} (Ok w) (Ok x)) Q → ((k : ℕ) → Q k → ⊥) → r ≡ Ok w
  was_ok (Ok x) w h f = cc
  was_ok (Err k) w h f = absurd (f k h)

  pub was_err : (r : Result X ℕ) (f : Fault) → MatchResult r (λ x. ◌≡◌ {A = Result X Fault} (Err f) (Ok x)) Q → (k : ℕ) × (r ≡ Err k) × Q k
  was_err (Ok x) f h = absurd (cc)
  was_err (Err k) f h = (k, refl, h)
