-- How deep types nest, read off their text.
use Rattle.std.proofs.Common.{◌≡◌, ℕ, ◌+◌, max, true, List, [], ◌++◌, drop, sym, refl, ap, ◌∙◌, append_assoc, append-nil, arith}
use Rattle.reading.proofs.Whole.{same_head_self}
use Rattle.std.proofs.lemmas.Bool.{and_parts, and_from}
use Rattle.type_notation.proofs.Prefixes.{shape_of, parts_of, shape_parts, shape_counts, shape_sound, shape_same}
use Rattle.type_notation.specs.declared.shape.Shape.{Shape}
use Rattle.type_notation.specs.Shapes.{arity, shape_text, NoShape, Nests}
use Rattle.type_notation.specs.TypeTexts.{depth, depths, TypeForm}
use Rattle.types.specs.Texts.{type_text, type_texts, sound, sounds}
use Rattle.types.specs.Model.{Ty, number, texts, comps, lists, tables, end, also}

depth_parts : (t : Ty) → depth t ≡ 1 + depths (parts_of t)
depth_parts number = refl
depth_parts texts = refl
depth_parts (comps ts) = refl
depth_parts (lists t) = omega arith
depth_parts (tables k a) = omega arith

pub nests_none : (s : List ℕ) (at n : ℕ) → n ≡ 0 → Nests s at n 0 at
nests_none s at n z end rest c r e = (refl, e)
nests_none s at n z (also t ts) rest c r e = absurd (omega arith)

pub nests_wrong : (s : List ℕ) (at n : ℕ) (back : List ℕ) → (n ≡ 0 → ⊥) → NoShape (drop at s) back → Nests s at n 0 at
nests_wrong s at n back some h ts rest c r e =
    absurd (some (h.stop back (same_head_self back) n rest (record { types = ts; counts = c; right = r; shows = sym h.splits ∙ e })))

-- the types under the first, and then the others
pub nests_more : (s : List ℕ) (at n k : ℕ) (h : Shape) (middle b deep end' m : ℕ) → drop at s ≡ shape_text h ++ drop middle s → Nests s middle (arity h) deep b → n ≡ k + 1 → Nests s b k m end' → Nests s at n (max (deep + 1) m) end'
nests_more s at n k h middle b deep end' m e inner z others end rest c r g = absurd (omega arith)
nests_more s at n k h middle b deep end' m e inner z others (also u us) rest c r g =
    let q = and_parts (sound u) (sounds us) r in
    let t : type_texts (also u us) ++ rest ≡ shape_text (shape_of u) ++ (type_texts (parts_of u) ++ (type_texts us ++ rest)) =
    append_assoc (type_text u) (type_texts us) rest ∙ ap (λ x. x ++ (type_texts us ++ rest)) (shape_parts u) ∙ append_assoc (shape_text (shape_of u)) (type_texts (parts_of u)) (type_texts us ++ rest) in
    let p = shape_same h (shape_of u) (drop middle s) (type_texts (parts_of u) ++ (type_texts us ++ rest)) (sym e ∙ g ∙ t) in
    let i = inner (parts_of u) (type_texts us ++ rest) (shape_counts u ∙ ap arity (sym p.0)) (shape_sound u q.0).1 p.1 in
    let j = others us rest (omega arith) q.1 i.1 in
    let k = depth_parts u in
    (omega (arith, i.0, j.0), j.1)

pub nests_one : (s : List ℕ) (deep end' : ℕ) → Nests s 0 1 deep end' → (t : Ty) → TypeForm t s → deep ≡ depth t
nests_one s deep end' h t f =
    let i = (h (also t end) [] refl (and_true t f.0) (sym (append-nil (type_text t ++ []) ∙ append-nil (type_text t) ∙ f.1))).0 in
    omega arith
  where
    and_true : (t : Ty) → sound t ≡ true → sounds (also t end) ≡ true
    and_true t e = and_from (sound t) true e refl
