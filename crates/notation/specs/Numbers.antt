-- How a number is written: decimal digits, no leading zero, a minus before a negative one.
use Rattle.std.specs.Prelude.{◌≡◌, ℕ, zero, suc, ◌+◌, List, [], ◌∷◌, map, ℤ, pos, negsuc}
use Rattle.std.specs.Int.Digits.{digits_of}

abbrev pub nat : ℕ → List ℕ
nat zero = 48 ∷ []
nat (suc n) = map (λ d. 48 + d) (digits_of 10 (suc n))

abbrev pub int : ℤ → List ℕ
int (pos n) = nat n
int (negsuc n) = 45 ∷ nat (suc n)

abbrev pub NumberForm : ℤ → List ℕ → Type 0
NumberForm z s = int z ≡ s
