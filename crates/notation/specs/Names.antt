-- Names: a small letter, and then small letters, digits and single quotes.
use Rattle.std.specs.Prelude.{◌≡◌, ℕ, ◌+◌, Bool, true, false, cond, ◌&&◌, ◌||◌, List, [], ◌∷◌, length, ◌==◌, nat_le}
use Rattle.std.specs.List.{prefix_len}

abbrev pub letter : ℕ → Bool
letter c = nat_le 97 c && nat_le c 122

abbrev pub name_code : ℕ → Bool
name_code c = letter c || ((nat_le 48 c && nat_le c 57) || c == 39)

abbrev pub name_codes : List ℕ → Bool
name_codes [] = true
name_codes (c ∷ s) = name_code c && name_codes s

abbrev pub named : List ℕ → Bool
named [] = false
named (c ∷ s) = letter c && name_codes s

-- a name is its bytes
abbrev pub NameForm : List ℕ → List ℕ → Type 0
NameForm n s = (n ≡ s) × (named s ≡ true)

abbrev pub name_fits : List ℕ → Bool
name_fits n = nat_le (length n) 16

-- how many bytes at the front are a name's
abbrev pub name_front : List ℕ → ℕ
name_front [] = 0
name_front (c ∷ s) = cond (letter c) (1 + prefix_len name_code s) 0
