-- Types built from their text.
use Rattle.std.proofs.Common.{◌≡◌, ℕ, ◌+◌, true, ◌&&◌, List, [], ◌++◌, drop, sym, refl, ap, ◌∙◌, append_assoc, append-nil, arith}
use Rattle.reading.proofs.Whole.{same_head_self}
use Rattle.std.proofs.lemmas.Bool.{and_parts, and_from}
use Rattle.type_notation.proofs.Prefixes.{shape_of, parts_of, shape_parts, shape_counts, shape_sound, shape_same}
use Rattle.type_notation.specs.declared.shape.Shape.{Shape}
use Rattle.type_notation.specs.declared.shape.Shape.TheVariants.{Number, Text, Compound, List as Entries, Table}
use Rattle.type_notation.specs.Shapes.{arity, shape_text, NoShape, Builds, BuildsAll}
use Rattle.type_notation.specs.TypeTexts.{TypeForm}
use Rattle.types.specs.Texts.{count, type_text, type_texts, sound, sounds}
use Rattle.types.specs.Model.{Ty, Tys, number, texts, comps, lists, tables, end, also}

-- a type is its shape and its parts
abbrev remade : Shape → Tys → Ty
remade Number ts = number
remade Text ts = texts
remade (Compound n) ts = comps ts
remade Entries end = number
remade Entries (also t ts) = lists t
remade Table end = number
remade Table (also k end) = number
remade Table (also k (also a ts)) = tables k a

remade_type : (t : Ty) → remade (shape_of t) (parts_of t) ≡ t
remade_type number = refl
remade_type texts = refl
remade_type (comps ts) = refl
remade_type (lists t) = refl
remade_type (tables k a) = refl

-- the type u, then rest, where a shape stands
record Under (s : List ℕ) (h : Shape) (middle : ℕ) (u : Ty) (rest : List ℕ) : Type 0 where
  shaped : remade h (parts_of u) ≡ u
  counts : count (parts_of u) ≡ arity h
  right : sounds (parts_of u) ≡ true
  shows : drop middle s ≡ type_texts (parts_of u) ++ rest

under : (s : List ℕ) (at : ℕ) (h : Shape) (middle : ℕ) → drop at s ≡ shape_text h ++ drop middle s → (u : Ty) (rest : List ℕ) → sound u ≡ true → drop at s ≡ type_text u ++ rest → Under s h middle u rest
under s at h middle e u rest r f =
    let g : type_text u ++ rest ≡ shape_text (shape_of u) ++ (type_texts (parts_of u) ++ rest) = ap (λ x. x ++ rest) (shape_parts u) ∙ append_assoc (shape_text (shape_of u)) (type_texts (parts_of u)) rest in
    let p = shape_same h (shape_of u) (drop middle s) (type_texts (parts_of u) ++ rest) (sym e ∙ f ∙ g) in
    record {
      shaped = ap (λ k. remade k (parts_of u)) p.0 ∙ remade_type u;
      counts = shape_counts u ∙ ap arity (sym p.0);
      right = (shape_sound u r).1;
      shows = p.1;
    }

pub builds_wrong : (s : List ℕ) (at end' : ℕ) (t : Ty) (back : List ℕ) → NoShape (drop at s) back → Builds s at t end'
builds_wrong s at end' t back h u rest r e =
    let z = h.stop back (same_head_self back) 1 rest (record { types = also u end; counts = refl; right = and_from (sound u) true r refl; shows = sym h.splits ∙ e ∙ ap (λ x. x ++ rest) (sym (append-nil (type_text u))) }) in
    absurd (omega arith)

module _ (s : List ℕ) (at middle : ℕ) (h : Shape) (shown : drop at s ≡ shape_text h ++ drop middle s) where
  under_shape : (g : Shape) → h ≡ g → (u : Ty) (rest : List ℕ) → sound u ≡ true → drop at s ≡ type_text u ++ rest → Under s g middle u rest
  under_shape g i = under s at g middle (shown ∙ ap (λ x. shape_text x ++ drop middle s) i)

  -- a type with none under it
  builds_leaf : (g : Shape) (t : Ty) → ((ts : Tys) → remade g ts ≡ t) → arity g ≡ 0 → h ≡ g → Builds s at t middle
  builds_leaf g t m z i u rest r f =
      let p = under_shape g i u rest r f in
      (sym (m (parts_of u)) ∙ p.shaped, none (parts_of u) (p.counts ∙ z) p.shows)
    where
      none : (ts : Tys) → count ts ≡ 0 → drop middle s ≡ type_texts ts ++ rest → drop middle s ≡ rest
      none end c e = e
      none (also t ts) c e = absurd (omega arith)

  pub builds_number : h ≡ Number → Builds s at number middle
  builds_number = builds_leaf Number number (λ _. refl) refl

  pub builds_text : h ≡ Text → Builds s at texts middle
  builds_text = builds_leaf Text texts (λ _. refl) refl

  pub builds_compound : (n : ℕ) (ts : Tys) (end' : ℕ) → h ≡ Compound n → BuildsAll s middle n ts end' → Builds s at (comps ts) end'
  builds_compound n ts end' i b u rest r f =
      let p = under_shape (Compound n) i u rest r f in
      let q = b (parts_of u) rest p.counts p.right p.shows in
      (ap comps q.0 ∙ p.shaped, q.1)

  pub builds_list : (t : Ty) (end' : ℕ) → h ≡ Entries → Builds s middle t end' → Builds s at (lists t) end'
  builds_list t end' i b u rest r f = let p = under_shape Entries i u rest r f in go (parts_of u) p.shaped p.counts p.right p.shows
    where
      go : (ts : Tys) → remade Entries ts ≡ u → count ts ≡ 1 → sounds ts ≡ true → drop middle s ≡ type_texts ts ++ rest → (lists t ≡ u) × (drop end' s ≡ rest)
      go end m c r e = absurd (omega arith)
      go (also v end) m c r e =
          let q = b v rest (and_parts (sound v) true r).0 (e ∙ ap (λ x. x ++ rest) (append-nil (type_text v))) in
          (ap lists q.0 ∙ m, q.1)
      go (also v (also w ts)) m c r e = absurd (omega arith)

  pub builds_table : (k a : Ty) (next end' : ℕ) → h ≡ Table → Builds s middle k next → Builds s next a end' → Builds s at (tables k a) end'
  builds_table k a next end' i b d u rest r f = let p = under_shape Table i u rest r f in go (parts_of u) p.shaped p.counts p.right p.shows
    where
      go : (ts : Tys) → remade Table ts ≡ u → count ts ≡ 2 → sounds ts ≡ true → drop middle s ≡ type_texts ts ++ rest → (tables k a ≡ u) × (drop end' s ≡ rest)
      go end m c r e = absurd (omega arith)
      go (also v end) m c r e = absurd (omega arith)
      go (also v (also w end)) m c r e =
          let i = and_parts (sound v) (sound w && true) r in
          let q = b v (type_text w ++ rest) i.0 (e ∙ append_assoc (type_text v) (type_text w ++ []) rest ∙ ap (λ x. type_text v ++ (x ++ rest)) (append-nil (type_text w))) in
          let j = d w rest (and_parts (sound w) true i.1).0 q.1 in
          let x = q.0 in
          let y = j.0 in
          (cc, j.1)
      go (also v (also w (also x ts))) m c r e = absurd (omega arith)

-- ---- types one after the other

pub builds_end : (s : List ℕ) (at n : ℕ) → n ≡ 0 → BuildsAll s at n end at
builds_end s at n z end rest c r e = (refl, e)
builds_end s at n z (also t ts) rest c r e = absurd (omega arith)

pub builds_also : (s : List ℕ) (at n m next end' : ℕ) (t : Ty) (ts : Tys) → n ≡ m + 1 → Builds s at t next → BuildsAll s next m ts end' → BuildsAll s at n (also t ts) end'
builds_also s at n m next end' t ts k b d end rest c r e = absurd (omega arith)
builds_also s at n m next end' t ts k b d (also u us) rest c r e =
    let i = and_parts (sound u) (sounds us) r in
    let q = b u (type_texts us ++ rest) i.0 (e ∙ append_assoc (type_text u) (type_texts us) rest) in
    let j = d us rest (omega arith) i.1 q.1 in
    let x = q.0 in
    let y = j.0 in
    (cc, j.1)

pub builds_whole : (s : List ℕ) (t : Ty) (end' : ℕ) → Builds s 0 t end' → (u : Ty) → TypeForm u s → t ≡ u
builds_whole s t end' b u f = (b u [] f.0 (sym (append-nil (type_text u) ∙ f.1))).0
