-- Reading texts: what stands at a place, and what is left after it.
use Rattle.std.specs.Prelude.{◌≡◌, ℕ, ◌+◌, ◌<◌, ◌≤◌, Bool, true, List, [], ◌∷◌, length, drop, Some, None, Ok, Err, Option, Result}
use Rattle.reading.specs.declared.word.Word.{Word}
use Rattle.reading.specs.Reading.{Stuck}
use Rattle.notation.specs.Texts.{step, inner, Printed, text_fits}
use Rattle.types.specs.Types.{printable}

-- what may follow a text
abbrev pub NoQuote : List ℕ → Type 0
NoQuote [] = Unit {0}
NoQuote (c ∷ cs) = c ≡ 39 → ⊥

-- X goes on with the rest of no text
abbrev pub NoEnd : List ℕ → List ℕ → Type 0
NoEnd X back = Stuck Printed (λ t rest. inner t (39 ∷ rest)) NoQuote X back

-- what stands next in a text: a code with the place after it, or its end, or the place of the first byte that no text has there
abbrev pub Stands : List ℕ → ℕ → Result (Option (ℕ × ℕ)) ℕ → Type 0
Stands s i (Ok (Some p)) = (i < p.1) × (p.1 ≤ length s) × (drop i s ≡ step p.0 (drop p.1 s)) × (printable p.0 ≡ true)
Stands s i (Ok None) = (i < length s) × (drop i s ≡ 39 ∷ drop (i + 1) s) × NoQuote (drop (i + 1) s)
Stands s i (Err k) = (i ≤ k) × (i ≤ length s → k ≤ length s) × NoEnd (drop i s) (drop k s)

-- X begins with a text of n characters, and Y is what follows
pub record GotText (X : List ℕ) (n : ℕ) (fits : Bool) (Y : List ℕ) : Type 0 where
  pub codes : List ℕ
  pub shows : X ≡ 39 ∷ inner codes (39 ∷ Y)
  pub printed : Printed codes
  pub after : NoQuote Y
  pub within : fits ≡ text_fits codes
  pub counts : n ≡ length codes

abbrev pub NoText : List ℕ → List ℕ → Type 0
NoText X back = Stuck Printed (λ t rest. 39 ∷ inner t (39 ∷ rest)) NoQuote X back

abbrev pub ReadText : List ℕ → ℕ → Result (Word ℕ) ℕ → Type 0
ReadText s at (Ok w) = (at < w.end) × (w.end ≤ length s) × GotText (drop at s) w.value w.fits (drop w.end s)
ReadText s at (Err k) = (at ≤ k) × (at ≤ length s → k ≤ length s) × NoText (drop at s) (drop k s)

-- codes are those of the text that stands at a place, if one does
abbrev pub Unquotes : List ℕ → ℕ → List ℕ → Type 0
Unquotes s at codes = (t Y : List ℕ) → Printed t → NoQuote Y → drop at s ≡ 39 ∷ inner t (39 ∷ Y) → codes ≡ t
