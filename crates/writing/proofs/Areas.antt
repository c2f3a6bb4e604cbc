-- What an area holds after the bytes of a display.
use Rattle.std.proofs.Common.{◌≡◌, ℕ, ◌+◌, ◌<◌, ◌≤◌, true, List, [], ◌∷◌, ◌++◌, length, take, drop, set, nat_lt, sym, ap, ◌∙◌, append_assoc, arith, length-set}
use Rattle.std.specs.List.{fold}
use Rattle.std.proofs.lemmas.Bool.Decides.{nat_tests}
use Rattle.std.proofs.lemmas.List.{take-append-drop, take_more_set, drop-set-lt}
use Rattle.writing.specs.declared.sinks.Area.{Area}
use Rattle.writing.specs.Sinks.{filled}
use Rattle.writing.specs.Writing.{overwritten}

overwritten_none : (area : List ℕ) (at : ℕ) → overwritten area at [] ≡ area
overwritten_none area at = let e : at + 0 ≡ at = omega arith in ap (λ n. take at area ++ drop n area) e ∙ take-append-drop at area

overwritten_more : (area : List ℕ) (at b : ℕ) (bs : List ℕ) → at < length area → overwritten (set area at b) (at + 1) bs ≡ overwritten area at (b ∷ bs)
overwritten_more area at b bs h =
    let e : at + 1 + length bs ≡ at + length (b ∷ bs) = omega arith in
    let t = take_more_set area at b h in
    let d = drop-set-lt (at + 1 + length bs) area at b (omega arith) in
    let a = append_assoc (take at area) (b ∷ []) (bs ++ drop (at + length (b ∷ bs)) area) in
    cc

pub filled_all : (area : Area) (bs : List ℕ) → area.at + length bs ≤ length area.bytes.now
    → fold filled area bs ≡ record { bytes = record area.bytes { now = overwritten area.bytes.now area.at bs }; at = area.at + length bs }
filled_all area [] h =
    let e = overwritten_none area.bytes.now area.at in
    let f : area.at + 0 ≡ area.at = omega arith in
    λ i. record { bytes = record area.bytes { now = sym e i }; at = sym f i }
filled_all area (b ∷ bs) h =
    let t : nat_lt area.at (length area.bytes.now) ≡ true = grind (arith, nat_tests) in
    let l = length-set area.bytes.now area.at b in
    let r = filled_all (record { bytes = record area.bytes { now = set area.bytes.now area.at b }; at = area.at + 1 }) bs (omega arith) in
    let e : area.at + 1 + length bs ≡ area.at + length (b ∷ bs) = omega arith in
    let m = overwritten_more area.bytes.now area.at b bs (omega arith) in
    cc
