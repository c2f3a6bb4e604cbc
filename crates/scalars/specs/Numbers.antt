-- Division with the quotient rounded down.
use Rattle.std.specs.Prelude.{◌≡◌, ◌-◌, ◌^◌, Bool, true, ◌&&◌, ◌||◌, ◌⊎◌, ℤ, pos, negsuc, ◌+ℤ◌, ◌*ℤ◌, ◌≤ℤ◌, ◌<ℤ◌, Option, MatchOption, ◌≢◌, int_lt}
use Rattle.types.specs.Types.{bounded}

-- q is the quotient of a by b, rounded down, and m the modulus, which is 0 or on the side of b
pub record Floored (a b q m : ℤ) : Type 0 where
  pub whole : a ≡ b *ℤ q +ℤ m
  pub positive : pos 0 <ℤ b → (pos 0 ≤ℤ m) × (m <ℤ b)
  pub negative : b <ℤ pos 0 → (b <ℤ m) × (m ≤ℤ pos 0)

-- unless b is 0, no other quotient and no other modulus are so
abbrev pub OneWay : ℤ → ℤ → Type 0
OneWay a b = (b ≢ pos 0) → (q q' m m' : ℤ) → Floored a b q m → Floored a b q' m' → (q ≡ q') × (m ≡ m')

-- there is no quotient by 0, and 64 bits do not hold that of the lowest number by -1
abbrev pub NoQuotient : ℤ → ℤ → Type 0
NoQuotient a b = (b ≡ pos 0) ⊎ ((a ≡ negsuc (2 ^ 63 - 1)) × (b ≡ negsuc 0))

-- r is the quotient of a by b, and nothing exactly where there is none
abbrev pub Quotient : ℤ → ℤ → Option ℤ → Type 0
Quotient a b r = MatchOption r (NoQuotient a b) (λ q. (NoQuotient a b → ⊥) × ((m : ℤ) × Floored a b q m))

-- r is the modulus of a by b, and nothing exactly where b is 0
abbrev pub Modulus : ℤ → ℤ → Option ℤ → Type 0
Modulus a b r = MatchOption r (b ≡ pos 0) (λ m. (b ≢ pos 0) × ((q : ℤ) × Floored a b q m))

-- of numbers within the bounds, r is within them too, and nothing only where b is 0
abbrev pub KeepsBounds : ℤ → ℤ → Option ℤ → Type 0
KeepsBounds a b r = bounded a ≡ true → bounded b ≡ true → MatchOption r (b ≡ pos 0) (λ n. bounded n ≡ true)

-- one is below 0 and the other above
abbrev pub opposed : ℤ → ℤ → Bool
opposed m b = (int_lt m (pos 0) && int_lt (pos 0) b) || (int_lt (pos 0) m && int_lt b (pos 0))
