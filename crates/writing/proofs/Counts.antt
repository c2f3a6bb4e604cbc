-- What a count is after the bytes of a display.
use Rattle.std.proofs.Common.{◌≡◌, ℕ, ◌+◌, ◌-◌, ◌^◌, ◌≤◌, min, List, [], ◌∷◌, length, sym, ap, ◌∙◌, arith, length-append}
use Rattle.notation.proofs.Quoting.{inner_joins}
use Rattle.notation.specs.Texts.{inner}
use Rattle.std.specs.List.{fold}
use Rattle.writing.specs.declared.sinks.Count.{Count}
use Rattle.writing.specs.Sinks.{counted, Takes}

pub counted_all : (count : Count) (bs : List ℕ) → count.bytes ≤ 2 ^ 64 - 1 → (fold counted count bs).bytes ≡ min (count.bytes + length bs) (2 ^ 64 - 1)
counted_all count [] h = omega arith
counted_all count (b ∷ bs) h = let k = counted_all (counted count b) bs (omega arith) in omega arith

pub counted_is : (count : Count) (bs : List ℕ) (n : ℕ) → count.bytes ≤ 2 ^ 64 - 1 → n ≡ min (count.bytes + length bs) (2 ^ 64 - 1) → record { bytes = n } ≡ fold counted count bs
counted_is count bs n h e = let k = e ∙ sym (counted_all count bs h) in λ i. record { bytes = k i }

pub counted_text : (count : Count) (codes : List ℕ) (n : ℕ) → count.bytes ≤ 2 ^ 64 - 1 → n ≡ min (count.bytes + length (inner codes []) + 2) (2 ^ 64 - 1)
    → Takes counted count (λ rest. 39 ∷ inner codes (39 ∷ rest)) (record { bytes = n })
counted_text count codes n h e rest =
    let j = ap length (inner_joins codes [] (39 ∷ rest)) ∙ length-append (inner codes []) (39 ∷ rest) in
    let a = counted_all (record { bytes = n }) rest (omega arith) in
    let b = counted_all count (39 ∷ inner codes (39 ∷ rest)) h in
    let k : (fold counted (record { bytes = n }) rest).bytes ≡ (fold counted count (39 ∷ inner codes (39 ∷ rest))).bytes = omega arith in
    λ i. record { bytes = k i }
