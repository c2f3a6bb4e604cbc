-- The display of a value of a type has at most thirteen bytes for each unit of its size.
use Rattle.std.proofs.Common.{◌≡◌, ℕ, zero, suc, ◌+◌, ◌*◌, ◌≤◌, Bool, true, false, cond, ◌&&◌, leb, List, [], ◌∷◌, length, ℤ, pos, negsuc, arith, length-append}
use Rattle.notation.specs.Numbers.{nat, int}
use Rattle.notation.specs.Texts.{twice, step, inner}
use Rattle.std.proofs.lemmas.Int.Digits.{length-digits_of-le}
use Rattle.std.proofs.lemmas.List.{length-map}
use Rattle.std.proofs.lemmas.Bool.{and_parts, leb-true, false≢true}
use Rattle.std.specs.Int.Digits.{digits_of}
use Rattle.types.proofs.ByKind.{number_kind, comp_kind, list_kind, table_kind}
use Rattle.types.specs.Model.{Ty, Tys, end, also}
use Rattle.types.specs.Types.{bounded, formed, each_formed, all_formed, pairs_formed, Of}
use Rattle.value_model.specs.Model.{Val, Vals, Pairs, num, text, comp, list, table, none, more, empty, pair}
use Rattle.value_model.specs.Sizes.{size, sizes, pair_sizes}
use Rattle.writing.specs.Displays.{shown, written, parted, shown_items, shown_entries}

-- nine digits
nat_nine : (n : ℕ) → n ≤ 999999999 → length (nat n) ≤ 9
nat_nine zero h = omega arith
nat_nine (suc n) h =
    let a = length-map (digits_of 10 (suc n)) (λ d. 48 + d) in
    let b = length-digits_of-le 10 9 (suc n) (omega arith) (omega arith) in
    omega arith

number_short : (z : ℤ) → bounded z ≡ true → length (int z) ≤ 10
number_short (pos n) h = let b = nat_nine n (leb-true n 999999999 h) in omega arith
number_short (negsuc n) h = let b = nat_nine (suc n) (leb-true (suc n) 999999999 h) in omega arith

code_short : (c : ℕ) (rest : List ℕ) → length (step c rest) ≤ 2 + length rest
code_short c rest = elim (twice c) as (λ b. length (cond b (c ∷ (c ∷ rest)) (c ∷ rest)) ≤ 2 + length rest) [ true ↦ omega arith | false ↦ omega arith ]

codes_short : (s rest : List ℕ) → length (inner s rest) ≤ 2 * length s + length rest
codes_short [] rest = omega arith
codes_short (c ∷ s) rest =
    let a = code_short c (inner s rest) in
    let b = codes_short s rest in
    omega arith

parted_short : (first : Bool) (sep : ℕ) (rest : List ℕ) → length (parted first sep rest) ≤ 2 + length rest
parted_short true sep rest = omega arith
parted_short false sep rest = omega arith

abbrev Short : Val → Type 0
Short v = (rest : List ℕ) → length (shown v rest) + 3 ≤ 13 * size v + length rest

abbrev ShortItems : Vals → Type 0
ShortItems r = (first : Bool) (sep close : ℕ) (rest : List ℕ) → length (shown_items r first sep close rest) ≤ 13 * sizes r + 1 + length rest

items_more : (v : Val) (r : Vals) → Short v → ShortItems r → ShortItems (more v r)
items_more v r h k first sep close rest =
    let others = shown_items r false sep close rest in
    let a = parted_short first sep (shown v others) in
    let b = h others in
    let d = k false sep close rest in
    omega arith

mutual
  short : (v : Val) (t : Ty) → formed v t ≡ true → Short v
  short (num z) t h rest = let b = number_short z (number_kind z t h).1 in let c = length-append (int z) rest in omega arith
  short (text s) t h rest = let b = codes_short s (39 ∷ rest) in omega arith
  short (comp r) t h rest = let p = comp_kind r t h in let a = each_short r p.0 p.2 true 44 41 rest in omega arith
  short (list r) t h rest = let p = list_kind r t h in let a = all_short r p.0 p.3 true 59 125 rest in omega arith
  short (table q) t h rest = let p = table_kind q t h in let b = pairs_short q p.0 p.1 p.4 true rest in omega arith

  each_short : (r : Vals) (ts : Tys) → each_formed r ts ≡ true → ShortItems r
  each_short none ts h = λ first sep close rest. omega arith
  each_short (more v r) end h = absurd (false≢true h)
  each_short (more v r) (also t ts) h = let p = and_parts (formed v t) (each_formed r ts) h in items_more v r (short v t p.0) (each_short r ts p.1)

  all_short : (r : Vals) (t : Ty) → all_formed r t ≡ true → ShortItems r
  all_short none t h = λ first sep close rest. omega arith
  all_short (more v r) t h = let p = and_parts (formed v t) (all_formed r t) h in items_more v r (short v t p.0) (all_short r t p.1)

  pairs_short : (p : Pairs) (k a : Ty) → pairs_formed p k a ≡ true → (first : Bool) (rest : List ℕ) → length (shown_entries p first rest) ≤ 13 * pair_sizes p + 1 + length rest
  pairs_short empty k a h first rest = omega arith
  pairs_short (pair l b p) k a h first rest =
      let m = and_parts (formed l k) (formed b a && pairs_formed p k a) h in
      let n = and_parts (formed b a) (pairs_formed p k a) m.1 in
      let others = shown_entries p false rest in
      let associate = shown b others in
      let x = short l k m.0 (93 ∷ (58 ∷ (32 ∷ associate))) in
      let y = short b a n.0 others in
      let z = pairs_short p k a n.1 false rest in
      let f = parted_short first 59 (91 ∷ shown l (93 ∷ (58 ∷ (32 ∷ associate)))) in
      omega arith

pub display_short : (t : Ty) (v : Val) → Of t v → length (written v) ≤ 3325
display_short t v h =
    let p = and_parts (leb (size v) 256) (formed v t) h in
    let a = leb-true (size v) 256 p.0 in
    let b = short v t p.1 [] in
    omega arith
