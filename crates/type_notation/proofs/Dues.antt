-- The steps of the reader of types: how many types are still due, and where none goes on.
use Rattle.std.proofs.Common.{◌≡◌, ℕ, zero, suc, ◌+◌, ◌-◌, ◌*◌, ◌<◌, ◌≤◌, true, ◌⊎◌, List, [], ◌∷◌, ◌++◌, length, drop, Some, None, Ok, Err, Option, sym, refl, ap, ◌∙◌, subst, inl, inr, append_assoc, append-nil, arith, length-drop}
use Rattle.reading.specs.Bytes.{Byte}
use Rattle.reading.specs.Reading.{SameHead}
use Rattle.std.proofs.lemmas.Bool.{and_parts, and_from}
use Rattle.std.specs.Option.{ok_or}
use Rattle.type_notation.proofs.Prefixes.{types_in, types_out, first_of}
use Rattle.type_notation.specs.declared.shape.Shape.{Shape}
use Rattle.type_notation.specs.declared.shape.Shape.TheVariants.{Number, Text, Compound, List as Entries, Table}
use Rattle.type_notation.specs.Shapes.{arity, shape_text, Shapely, Types, NoShape, CountAt, ShapeAt, GotType, NoType}
use Rattle.types.specs.Texts.{count, type_text, type_texts, sound, sounds}
use Rattle.types.specs.Model.{Ty, Tys, number, end, also}

-- ---- where no type goes on

types_none : (n : ℕ) (X rest : List ℕ) → ((h : Shape) (Y : List ℕ) → Shapely h → X ≡ shape_text h ++ Y → ⊥) → Types n X rest → n ≡ 0
types_none n X rest never t = go t.types t.counts t.right t.shows
  where
    go : (ts : Tys) → count ts ≡ n → sounds ts ≡ true → X ≡ type_texts ts ++ rest → n ≡ 0
    go end c r e = sym c
    go (also u us) c r e =
        let p = first_of u us (and_parts (sound u) (sounds us) r).0 in
        absurd (never p.0 (p.1 ++ rest) p.2 (e ∙ ap (λ x. x ++ rest) p.3 ∙ append_assoc (shape_text p.0) p.1 rest))

-- as many numbers
abbrev letters : ℕ → List ℕ
letters zero = []
letters (suc n) = 110 ∷ letters n

numbers : (n : ℕ) → Types n (letters n) []
numbers zero = record { types = end; counts = refl; right = refl; shows = refl }
numbers (suc n) =
    let t = numbers n in
    let c = t.counts in
    record { types = also number t.types; counts = omega arith; right = t.right; shows = ap (λ x. 110 ∷ x) t.shows }

same_head_at : (X R : List ℕ) (c : ℕ) (Y : List ℕ) → SameHead X R → R ≡ c ∷ Y → (Z : List ℕ) × (X ≡ c ∷ Z)
same_head_at [] [] c Y h e = let z : ◌≡◌ {A = ℕ} 0 1 = cc in absurd (omega arith)
same_head_at [] (r ∷ R) c Y h e = elim h [ ]
same_head_at (x ∷ X) [] c Y h e = elim h [ ]
same_head_at (x ∷ X) (r ∷ R) c Y h e = (X, cc)

shape_first : (h : Shape) (Y Z : List ℕ) (c : ℕ) → c ∷ Z ≡ shape_text h ++ Y → (c ≡ 110) ⊎ ((c ≡ 116) ⊎ ((c ≡ 99) ⊎ ((c ≡ 108) ⊎ (c ≡ 98))))
shape_first Number Y Z c e = inl (cc)
shape_first Text Y Z c e = inr (inl (cc))
shape_first (Compound n) Y Z c e = inr (inr (inl (cc)))
shape_first Entries Y Z c e = inr (inr (inr (inl (cc))))
shape_first Table Y Z c e = inr (inr (inr (inr (cc))))

shape_some : (h : Shape) (Y : List ℕ) → [] ≡ shape_text h ++ Y → ⊥
shape_some Number Y e = let z : ◌≡◌ {A = ℕ} 0 1 = cc in omega arith
shape_some Text Y e = let z : ◌≡◌ {A = ℕ} 0 1 = cc in omega arith
shape_some (Compound n) Y e = let z : ◌≡◌ {A = ℕ} 0 1 = cc in omega arith
shape_some Entries Y e = let z : ◌≡◌ {A = ℕ} 0 1 = cc in omega arith
shape_some Table Y e = let z : ◌≡◌ {A = ℕ} 0 1 = cc in omega arith

-- at the end of the text, or at a byte that begins no type
pub shape_none : (X : List ℕ) → ((c : ℕ) (Z : List ℕ) → X ≡ c ∷ Z → ((c ≡ 110) ⊎ ((c ≡ 116) ⊎ ((c ≡ 99) ⊎ ((c ≡ 108) ⊎ (c ≡ 98))))) → ⊥) → NoShape X X
shape_none X never = record {
  front = [];
  splits = refl;
  more = λ n. (letters (n + 1), numbers (n + 1));
  stop = λ R s n rest t. types_none n R rest (go R s) t;
}
  where
    go : (R : List ℕ) → SameHead X R → (h : Shape) (Y : List ℕ) → Shapely h → R ≡ shape_text h ++ Y → ⊥
    go [] s h Y k e = shape_some h Y e
    go (r ∷ R) s h Y k e = let p = same_head_at X (r ∷ R) r R s refl in never r p.0 p.1 (shape_first h Y R r e)

-- after c, where no number of fields stands
pub shape_count : (X Z : List ℕ) → X ≡ 99 ∷ Z → ((d : ℕ) (rest : List ℕ) → Z ≡ d ∷ rest → 50 ≤ d → d ≤ 52 → ⊥) → NoShape X Z
shape_count X Z e never = record {
  front = 99 ∷ [];
  splits = e;
  more = λ n. (50 ∷ letters (2 + n), types_in (Compound 2) n (letters (2 + n)) [] (omega arith, omega arith) (numbers (2 + n)));
  stop = λ R s n rest t. types_none n (99 ∷ R) rest (go R s) t;
}
  where
    go : (R : List ℕ) → SameHead Z R → (h : Shape) (Y : List ℕ) → Shapely h → 99 ∷ R ≡ shape_text h ++ Y → ⊥
    go R s Number Y k e = let z : ◌≡◌ {A = ℕ} 99 110 = cc in omega arith
    go R s Text Y k e = let z : ◌≡◌ {A = ℕ} 99 116 = cc in omega arith
    go R s (Compound n) Y k e =
        let f : R ≡ (48 + n) ∷ Y = cc in
        let p = same_head_at Z R (48 + n) Y s f in
        never (48 + n) p.0 p.1 (omega (arith, k.0)) (omega (arith, k.1))
    go R s Entries Y k e = let z : ◌≡◌ {A = ℕ} 99 108 = cc in omega arith
    go R s Table Y k e = let z : ◌≡◌ {A = ℕ} 99 98 = cc in omega arith

-- what `?` passes on, and where it stops: no byte stands, or no number of fields
pub byte_some : (s : List ℕ) (at b : ℕ) (o : Option ℕ) → Byte s at o → Ok b ≡ ok_or o at → Byte s at (Some b)
byte_some s at b None h e = cc
byte_some s at b (Some c) h e = let f : c ≡ b = cc in rw f at h

pub shape_end : (s : List ℕ) (at k : ℕ) (o : Option ℕ) → Byte s at o → Err k ≡ ok_or o at → ShapeAt s at (Err k)
shape_end s at k None b e = let f : k ≡ at = cc in rw f (omega arith, λ h. h, shape_none (drop at s) (λ c Z g i. cc))
shape_end s at k (Some c) b e = cc

pub shape_odd : (s : List ℕ) (at k : ℕ) (o : Option ℕ) → Byte s at (Some 99) → CountAt s (at + 1) o → Err k ≡ ok_or o (at + 1) → ShapeAt s at (Err k)
shape_odd s at k None b h e = let f : k ≡ at + 1 = cc in rw f (omega arith, λ i. omega (arith, b.0), shape_count (drop at s) (drop (at + 1) s) b.1 h)
shape_odd s at k (Some c) b h e = cc

-- ---- a text is being read: after the front, m types are due

pub record Due (s : List ℕ) (i m : ℕ) : Type 0 where
  pub high : i ≤ length s
  pub small : m ≤ 1 + 2 * i
  pub front : List ℕ
  pub splits : s ≡ front ++ drop i s
  pub ahead : (Y rest : List ℕ) → Types 1 (front ++ Y) rest → Types m Y rest
  pub back : (Y rest : List ℕ) → Types m Y rest → Types 1 (front ++ Y) rest

shape_long : (s : List ℕ) (h : Shape) (i j : ℕ) → Shapely h → drop i s ≡ shape_text h ++ drop j s → i < j → j ≤ length s → i + arity h ≤ j + 2
shape_long s Number i j k e l u = omega arith
shape_long s Text i j k e l u = omega arith
shape_long s (Compound n) i j k e l u =
    let a = ap length e in
    let b = length-drop i s in
    let c = length-drop j s in
    omega (arith, k.1)
shape_long s Entries i j k e l u = omega arith
shape_long s Table i j k e l u = omega arith

types_at : (n m : ℕ) (X Y : List ℕ) → n ≡ m → Types n X Y → Types m X Y
types_at n m X Y e t = subst (λ (k : ℕ). Types k X Y) e t

types_of : (n : ℕ) (X Z Y : List ℕ) → X ≡ Z → Types n X Y → Types n Z Y
types_of n X Z Y e t = subst (λ (x : List ℕ). Types n x Y) e t

one_type : (X rest : List ℕ) → Types 1 X rest → (t : Ty) × (sound t ≡ true) × (X ≡ type_text t ++ rest)
one_type X rest t = go t.types t.counts t.right t.shows
  where
    go : (ts : Tys) → count ts ≡ 1 → sounds ts ≡ true → X ≡ type_texts ts ++ rest → (t : Ty) × (sound t ≡ true) × (X ≡ type_text t ++ rest)
    go end c r e = absurd (omega arith)
    go (also u end) c r e = (u, (and_parts (sound u) true r).0, e ∙ ap (λ x. x ++ rest) (append-nil (type_text u)))
    go (also u (also v us)) c r e = absurd (omega arith)

type_one : (t : Ty) (X rest : List ℕ) → sound t ≡ true → X ≡ type_text t ++ rest → Types 1 X rest
type_one t X rest r e = record { types = also t end; counts = refl; right = and_from (sound t) true r refl; shows = e ∙ ap (λ x. x ++ rest) (sym (append-nil (type_text t))) }

module _ (s : List ℕ) (i m : ℕ) (d : Due s i m) where
  pub due_more : 0 < m → (h : Shape) (j n : ℕ) → (i < j) × (j ≤ length s) × (drop i s ≡ shape_text h ++ drop j s) × Shapely h → n ≡ m - 1 + arity h → Due s j n
  due_more some h j n k e =
      let f = d.front in
      let a = d.small in
      let b = shape_long s h i j k.3 k.2 k.0 k.1 in
      record {
        high = k.1;
        small = omega (arith, k.0);
        front = f ++ shape_text h;
        splits = d.splits ∙ ap (λ x. f ++ x) k.2 ∙ sym (append_assoc f (shape_text h) (drop j s));
        ahead = λ Y rest t.
            types_at (arity h + (m - 1)) n Y rest (omega arith)
            (types_out h (m - 1) Y rest (types_at m (m - 1 + 1) (shape_text h ++ Y) rest (omega arith) (d.ahead (shape_text h ++ Y) rest (types_of 1 _ _ rest (append_assoc f (shape_text h) Y) t))));
        back = λ Y rest t.
            types_of 1 _ _ rest (sym (append_assoc f (shape_text h) Y))
            (d.back (shape_text h ++ Y) rest (types_at (m - 1 + 1) m (shape_text h ++ Y) rest (omega arith) (types_in h (m - 1) Y rest k.3 (types_at n (arity h + (m - 1)) Y rest (omega arith) t))));
      }

  pub due_fails : 0 < m → (back : List ℕ) → NoShape (drop i s) back → NoType s back
  due_fails some back n =
      let f = d.front in
      let p = n.more (m - 1) in
      let q = one_type (f ++ (n.front ++ p.0)) [] (d.back (n.front ++ p.0) [] (types_at (m - 1 + 1) m (n.front ++ p.0) [] (omega arith) p.1)) in
      record {
        front = f ++ n.front;
        splits = d.splits ∙ ap (λ x. f ++ x) n.splits ∙ sym (append_assoc f n.front back);
        word = q.0;
        right = q.1;
        more = p.0;
        shares = sym q.2 ∙ sym (append_assoc f n.front p.0);
        stop = λ R h w rest r _ e.
            let t = d.ahead (n.front ++ R) rest (types_of 1 _ _ rest (append_assoc f n.front R) (type_one w ((f ++ n.front) ++ R) rest r e)) in
            let z = n.stop R h m rest t in
            omega arith;
      }

  pub due_ends : m ≤ 0 → (t : Ty) × GotType s t (drop i s)
  due_ends none =
      let e : Types m (drop i s) (drop i s) = types_at 0 m (drop i s) (drop i s) (omega arith) (record { types = end; counts = refl; right = refl; shows = refl }) in
      let q = one_type s (drop i s) (types_of 1 _ _ (drop i s) (sym d.splits) (d.back (drop i s) (drop i s) e)) in
      (q.0, (q.1, q.2))
