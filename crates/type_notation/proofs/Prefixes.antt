-- Types in prefix notation: a type is read in one way, and a count of the types still due decides what may follow.
use Rattle.std.proofs.Common.{◌≡◌, ℕ, zero, suc, ◌+◌, ◌-◌, true, cond, ◌&&◌, eqb, leb, List, [], ◌∷◌, ◌++◌, sym, refl, ap, ◌∙◌, append_assoc, append-nil, arith}
use Rattle.reading.proofs.Whole.{Readable}
use Rattle.std.proofs.lemmas.List.{append_cancel_left}
use Rattle.std.proofs.lemmas.Bool.{and_parts, and_from, le-leb, leb-true}
use Rattle.type_notation.specs.declared.shape.Shape.{Shape}
use Rattle.type_notation.specs.declared.shape.Shape.TheVariants.{Number, Text, Compound, List as Entries, Table}
use Rattle.type_notation.specs.Shapes.{arity, shape_text, Shapely, Types}
use Rattle.type_notation.specs.TypeTexts.{TypeForm}
use Rattle.types.specs.Texts.{count, type_text, type_texts, sound, sounds}
use Rattle.types.specs.Model.{Ty, Tys, number, texts, comps, lists, tables, end, also}

-- two texts that begin with different bytes are not the same
apart : {P : Type 0} {c d : ℕ} {X Y : List ℕ} → (c ≡ d → ⊥) → c ∷ X ≡ d ∷ Y → P
apart {P} {c} {d} {X} {Y} n e = absurd (n (cc))

-- ---- one reading

mutual
  pub same : (t u : Ty) (r q : List ℕ) → sound t ≡ true → sound u ≡ true → type_text t ++ r ≡ type_text u ++ q → (t ≡ u) × (r ≡ q)
  same number number r q h i e = (refl, cc)
  same number texts r q h i e = apart (omega arith) e
  same number (comps us) r q h i e = apart (omega arith) e
  same number (lists u) r q h i e = apart (omega arith) e
  same number (tables l b) r q h i e = apart (omega arith) e
  same texts number r q h i e = apart (omega arith) e
  same texts texts r q h i e = (refl, cc)
  same texts (comps us) r q h i e = apart (omega arith) e
  same texts (lists u) r q h i e = apart (omega arith) e
  same texts (tables l b) r q h i e = apart (omega arith) e
  same (comps ts) number r q h i e = apart (omega arith) e
  same (comps ts) texts r q h i e = apart (omega arith) e
  same (comps ts) (comps us) r q h i e =
      let c : 48 + count ts ≡ 48 + count us = cc in
      let f : type_texts ts ++ r ≡ type_texts us ++ q = cc in
      let p = sames ts us r q (omega arith) (and_parts _ (sounds ts) h).1 (and_parts _ (sounds us) i).1 f in
      (ap comps p.0, p.1)
  same (comps ts) (lists u) r q h i e = apart (omega arith) e
  same (comps ts) (tables l b) r q h i e = apart (omega arith) e
  same (lists t) number r q h i e = apart (omega arith) e
  same (lists t) texts r q h i e = apart (omega arith) e
  same (lists t) (comps us) r q h i e = apart (omega arith) e
  same (lists t) (lists u) r q h i e =
      let f : type_text t ++ r ≡ type_text u ++ q = cc in
      let p = same t u r q h i f in
      (ap lists p.0, p.1)
  same (lists t) (tables l b) r q h i e = apart (omega arith) e
  same (tables k a) number r q h i e = apart (omega arith) e
  same (tables k a) texts r q h i e = apart (omega arith) e
  same (tables k a) (comps us) r q h i e = apart (omega arith) e
  same (tables k a) (lists u) r q h i e = apart (omega arith) e
  same (tables k a) (tables l b) r q h i e =
      let f : (type_text k ++ type_text a) ++ r ≡ (type_text l ++ type_text b) ++ q = cc in
      let m = and_parts (sound k) (sound a) h in
      let n = and_parts (sound l) (sound b) i in
      let p = same k l (type_text a ++ r) (type_text b ++ q) m.0 n.0 (sym (append_assoc (type_text k) (type_text a) r) ∙ f ∙ append_assoc (type_text l) (type_text b) q) in
      let g = same a b r q m.1 n.1 p.1 in
      let x = p.0 in
      let y = g.0 in
      (cc, g.1)

  sames : (ts us : Tys) (r q : List ℕ) → count ts ≡ count us → sounds ts ≡ true → sounds us ≡ true → type_texts ts ++ r ≡ type_texts us ++ q → (ts ≡ us) × (r ≡ q)
  sames end end r q c h i e = (refl, e)
  sames end (also u us) r q c h i e = absurd (omega arith)
  sames (also t ts) end r q c h i e = absurd (omega arith)
  sames (also t ts) (also u us) r q c h i e =
      let m = and_parts (sound t) (sounds ts) h in
      let n = and_parts (sound u) (sounds us) i in
      let p = same t u (type_texts ts ++ r) (type_texts us ++ q) m.0 n.0 (sym (append_assoc (type_text t) (type_texts ts) r) ∙ e ∙ append_assoc (type_text u) (type_texts us) q) in
      let g = sames ts us r q (omega arith) m.1 n.1 p.1 in
      let x = p.0 in
      let y = g.0 in
      (cc, g.1)

pub type_readable : Readable (λ t. sound t ≡ true) (λ t rest. type_text t ++ rest) (λ _. Unit {0}) TypeForm
type_readable = record {
  after_end = tt;
  after_head = λ Y R h a. a;
  joins = λ t rest. ap (λ x. x ++ rest) (sym (append-nil (type_text t)));
  same = λ t u r q h i _ _ e. same t u r q h i e;
  forms = λ t s h e. (h, sym (append-nil (type_text t)) ∙ e);
  right = λ t s f. f.0;
  shows = λ t s f. append-nil (type_text t) ∙ f.1;
}

-- ---- a type by its shape and the types under it

abbrev pub shape_of : Ty → Shape
shape_of number = Number
shape_of texts = Text
shape_of (comps ts) = Compound (count ts)
shape_of (lists t) = Entries
shape_of (tables k a) = Table

abbrev pub parts_of : Ty → Tys
parts_of number = end
parts_of texts = end
parts_of (comps ts) = ts
parts_of (lists t) = also t end
parts_of (tables k a) = also k (also a end)

pub shape_parts : (t : Ty) → type_text t ≡ shape_text (shape_of t) ++ type_texts (parts_of t)
shape_parts number = refl
shape_parts texts = refl
shape_parts (comps ts) = refl
shape_parts (lists t) = ap (λ x. 108 ∷ x) (sym (append-nil (type_text t)))
shape_parts (tables k a) = ap (λ x. 98 ∷ (type_text k ++ x)) (sym (append-nil (type_text a)))

pub shape_counts : (t : Ty) → count (parts_of t) ≡ arity (shape_of t)
shape_counts number = refl
shape_counts texts = refl
shape_counts (comps ts) = refl
shape_counts (lists t) = refl
shape_counts (tables k a) = refl

pub shape_sound : (t : Ty) → sound t ≡ true → Shapely (shape_of t) × (sounds (parts_of t) ≡ true)
shape_sound number h = (tt, refl)
shape_sound texts h = (tt, refl)
shape_sound (comps ts) h =
    let p = and_parts (leb 2 (count ts) && leb (count ts) 4) (sounds ts) h in
    let q = and_parts (leb 2 (count ts)) (leb (count ts) 4) p.0 in
    ((leb-true 2 (count ts) q.0, leb-true (count ts) 4 q.1), p.1)
shape_sound (lists t) h = (tt, and_from (sound t) true h refl)
shape_sound (tables k a) h =
    let p = and_parts (sound k) (sound a) h in
    (tt, and_from (sound k) (sound a && true) p.0 (and_from (sound a) true p.1 refl))

-- a type of a shape, with these types under it
pub record Node (h : Shape) (ts : Tys) : Type 0 where
  pub type : Ty
  pub right : sound type ≡ true
  pub shows : type_text type ≡ shape_text h ++ type_texts ts

node : (h : Shape) (ts : Tys) → Shapely h → count ts ≡ arity h → sounds ts ≡ true → Node h ts
node Number end k c r = record { type = number; right = refl; shows = refl }
node Number (also t ts) k c r = absurd (omega arith)
node Text end k c r = record { type = texts; right = refl; shows = refl }
node Text (also t ts) k c r = absurd (omega arith)
node (Compound n) ts k c r =
    record {
      type = comps ts;
      right = and_from (leb 2 (count ts) && leb (count ts) 4) (sounds ts) (and_from (leb 2 (count ts)) (leb (count ts) 4) (le-leb 2 (count ts) (omega (arith, k.0))) (le-leb (count ts) 4 (omega (arith, k.1)))) r;
      shows = ap (λ x. 99 ∷ ((48 + x) ∷ type_texts ts)) c;
    }
node Entries end k c r = absurd (omega arith)
node Entries (also t end) k c r = record { type = lists t; right = (and_parts (sound t) true r).0; shows = ap (λ x. 108 ∷ x) (sym (append-nil (type_text t))) }
node Entries (also t (also u ts)) k c r = absurd (omega arith)
node Table end k c r = absurd (omega arith)
node Table (also t end) k c r = absurd (omega arith)
node Table (also t (also u end)) k c r =
    let p = and_parts (sound t) (sound u && true) r in
    record { type = tables t u; right = and_from (sound t) (sound u) p.0 (and_parts (sound u) true p.1).0; shows = ap (λ x. 98 ∷ (type_text t ++ x)) (sym (append-nil (type_text u))) }
node Table (also t (also u (also v ts))) k c r = absurd (omega arith)

-- the shape that a text begins with
abbrev second : List ℕ → ℕ
second [] = 0
second (c ∷ s) = c

abbrev decoded : List ℕ → Shape
decoded [] = Number
decoded (c ∷ s) = cond (eqb c 110) Number (cond (eqb c 116) Text (cond (eqb c 108) Entries (cond (eqb c 98) Table (Compound (second s - 48)))))

decoded_shape : (h : Shape) (X : List ℕ) → decoded (shape_text h ++ X) ≡ h
decoded_shape Number X = refl
decoded_shape Text X = refl
decoded_shape (Compound n) X = let e : 48 + n - 48 ≡ n = omega arith in ap Compound e
decoded_shape Entries X = refl
decoded_shape Table X = refl

pub shape_same : (g h : Shape) (X Y : List ℕ) → shape_text g ++ X ≡ shape_text h ++ Y → (g ≡ h) × (X ≡ Y)
shape_same g h X Y e =
    let p : g ≡ h = sym (decoded_shape g X) ∙ ap decoded e ∙ decoded_shape h Y in
    (p, append_cancel_left (shape_text h) X Y (ap (λ k. shape_text k ++ X) (sym p) ∙ e))

-- ---- several types in a row

abbrev joined : Tys → Tys → Tys
joined end us = us
joined (also t ts) us = also t (joined ts us)

joined_text : (ts us : Tys) → type_texts (joined ts us) ≡ type_texts ts ++ type_texts us
joined_text end us = refl
joined_text (also t ts) us = ap (λ x. type_text t ++ x) (joined_text ts us) ∙ sym (append_assoc (type_text t) (type_texts ts) (type_texts us))

joined_count : (ts us : Tys) → count (joined ts us) ≡ count ts + count us
joined_count end us = omega arith
joined_count (also t ts) us = let e = joined_count ts us in omega arith

joined_sounds : (ts us : Tys) → sounds ts ≡ true → sounds us ≡ true → sounds (joined ts us) ≡ true
joined_sounds end us h k = k
joined_sounds (also t ts) us h k = let p = and_parts (sound t) (sounds ts) h in and_from (sound t) (sounds (joined ts us)) p.0 (joined_sounds ts us p.1 k)

record Halves (m n : ℕ) (ts : Tys) : Type 0 where
  front : Tys
  back : Tys
  whole : ts ≡ joined front back
  front_counts : count front ≡ m
  back_counts : count back ≡ n
  front_right : sounds front ≡ true
  back_right : sounds back ≡ true

halves : (m n : ℕ) (ts : Tys) → count ts ≡ m + n → sounds ts ≡ true → Halves m n ts
halves zero n ts c r = record { front = end; back = ts; whole = refl; front_counts = refl; back_counts = omega arith; front_right = refl; back_right = r }
halves (suc m) n end c r = absurd (omega arith)
halves (suc m) n (also t ts) c r =
    let p = and_parts (sound t) (sounds ts) r in
    let h = halves m n ts (omega arith) p.1 in
    let f = h.front_counts in
    record {
      front = also t h.front;
      back = h.back;
      whole = ap (also t) h.whole;
      front_counts = omega arith;
      back_counts = h.back_counts;
      front_right = and_from (sound t) (sounds h.front) p.0 h.front_right;
      back_right = h.back_right;
    }

shape_first : (u : Ty) (us : Tys) → type_text u ++ type_texts us ≡ shape_text (shape_of u) ++ type_texts (joined (parts_of u) us)
shape_first u us =
    ap (λ x. x ++ type_texts us) (shape_parts u) ∙ append_assoc (shape_text (shape_of u)) (type_texts (parts_of u)) (type_texts us) ∙ ap (λ x. shape_text (shape_of u) ++ x) (sym (joined_text (parts_of u) us))

pub first_of : (u : Ty) (us : Tys) → sound u ≡ true → (h : Shape) × (Y : List ℕ) × Shapely h × (type_text u ++ type_texts us ≡ shape_text h ++ Y)
first_of u us r = (shape_of u, type_texts (joined (parts_of u) us), (shape_sound u r).0, shape_first u us)

-- after a shape, the types under it are due, and then those that were
pub types_in : (h : Shape) (n : ℕ) (Y rest : List ℕ) → Shapely h → Types (arity h + n) Y rest → Types (n + 1) (shape_text h ++ Y) rest
types_in h n Y rest k t =
    let p = halves (arity h) n t.types t.counts t.right in
    let m = node h p.front k p.front_counts p.front_right in
    let c = p.back_counts in
    let e : type_texts (also m.type p.back) ≡ shape_text h ++ type_texts t.types =
    ap (λ x. x ++ type_texts p.back) m.shows ∙ append_assoc (shape_text h) (type_texts p.front) (type_texts p.back)
    ∙ ap (λ x. shape_text h ++ x) (sym (joined_text p.front p.back) ∙ ap type_texts (sym p.whole)) in
    record {
      types = also m.type p.back;
      counts = omega arith;
      right = and_from (sound m.type) (sounds p.back) m.right p.back_right;
      shows = ap (λ x. shape_text h ++ x) t.shows ∙ sym (append_assoc (shape_text h) (type_texts t.types) rest) ∙ ap (λ x. x ++ rest) (sym e);
    }

pub types_out : (h : Shape) (n : ℕ) (Y rest : List ℕ) → Types (n + 1) (shape_text h ++ Y) rest → Types (arity h + n) Y rest
types_out h n Y rest t = go t.types t.counts t.right t.shows
  where
    go : (ts : Tys) → count ts ≡ n + 1 → sounds ts ≡ true → shape_text h ++ Y ≡ type_texts ts ++ rest → Types (arity h + n) Y rest
    go end c r e = absurd (omega arith)
    go (also u us) c r e =
        let q = and_parts (sound u) (sounds us) r in
        let f : shape_text (shape_of u) ++ (type_texts (joined (parts_of u) us) ++ rest) ≡ shape_text h ++ Y =
        sym (append_assoc (shape_text (shape_of u)) (type_texts (joined (parts_of u) us)) rest) ∙ ap (λ x. x ++ rest) (sym (shape_first u us)) ∙ sym e in
        let p = shape_same (shape_of u) h (type_texts (joined (parts_of u) us) ++ rest) Y f in
        let a = joined_count (parts_of u) us in
        let b = shape_counts u ∙ ap arity p.0 in
        record {
          types = joined (parts_of u) us;
          counts = omega arith;
          right = joined_sounds (parts_of u) us (shape_sound u q.0).1 q.1;
          shows = sym p.1;
        }
