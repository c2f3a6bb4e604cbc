-- The place behind a mark.
use Rattle.std.proofs.Common.{ℕ, ◌<◌, ◌≤◌, List, ◌∷◌, length, drop, ap, arith, length-append, length-drop}
use Rattle.reading.specs.Bytes.{Stands}

pub past_mark : (s : List ℕ) (at b : ℕ) (mark : List ℕ) (end : ℕ) → Stands s at (b ∷ mark) end → (at < end) × (end ≤ length s)
past_mark s at b mark end h =
    let e = ap length h.2 in
    let f = length-drop at s in
    let g = length-drop end s in
    let i = length-append mark (drop end s) in
    let below : at ≤ length s = omega arith in
    let l = h.1 below in
    (omega arith, l)
