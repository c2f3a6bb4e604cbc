-- Texts: their codes are read in one way, and the steps of their readers.
use Rattle.std.proofs.Common.{◌≡◌, ℕ, ◌+◌, ◌<◌, ◌≤◌, Bool, true, false, cond, List, [], ◌∷◌, ◌++◌, length, drop, Some, None, Ok, Err, Option, Result, ◌≢◌, sym, refl, ap, ◌∙◌, subst, append-nil, arith, length-append}
use Rattle.reading.proofs.Whole.{Readable, same_head_self}
use Rattle.notation.specs.Quotes.{NoQuote, NoEnd, Stands, NoText, Unquotes}
use Rattle.reading.specs.Bytes.{Byte}
use Rattle.reading.specs.Reading.{SameHead}
use Rattle.notation.specs.Texts.{twice, step, inner, Printed, TextForm}
use Rattle.std.proofs.lemmas.Bool.{and_parts, and_from}
use Rattle.types.specs.Types.{printable, printables}

-- ---- one code

step_same : (c d : ℕ) (X Y : List ℕ) → step c X ≡ step d Y → (c ≡ d) × (X ≡ Y)
step_same c d X Y e = go (twice c) refl (twice d) refl e
  where
    go : (a : Bool) → twice c ≡ a → (b : Bool) → twice d ≡ b → cond a (c ∷ (c ∷ X)) (c ∷ X) ≡ cond b (d ∷ (d ∷ Y)) (d ∷ Y) → (c ≡ d) × (X ≡ Y)
    go true p true q e = (cc, cc)
    go true p false q e = let i : c ≡ d = cc in let f = ap twice i in absurd (cc)
    go false p true q e = let i : c ≡ d = cc in let f = ap twice i in absurd (cc)
    go false p false q e = (cc, cc)

step_some : (c : ℕ) (X : List ℕ) → (Y : List ℕ) × (step c X ≡ c ∷ Y)
step_some c X = elim (twice c) as (λ b. (Y : List ℕ) × (cond b (c ∷ (c ∷ X)) (c ∷ X) ≡ c ∷ Y)) [ true ↦ (c ∷ X, refl) | false ↦ (X, refl) ]

pub step_twice : (c : ℕ) (X : List ℕ) → twice c ≡ true → step c X ≡ c ∷ (c ∷ X)
step_twice c X e = ap (λ b. cond b (c ∷ (c ∷ X)) (c ∷ X)) e

pub step_joins : (c : ℕ) (X Y : List ℕ) → step c (X ++ Y) ≡ step c X ++ Y
step_joins c X Y = elim (twice c) as (λ b. cond b (c ∷ (c ∷ (X ++ Y))) (c ∷ (X ++ Y)) ≡ cond b (c ∷ (c ∷ X)) (c ∷ X) ++ Y) [ true ↦ refl | false ↦ refl ]

pub inner_joins : (t X Y : List ℕ) → inner t (X ++ Y) ≡ inner t X ++ Y
inner_joins [] X Y = refl
inner_joins (c ∷ t) X Y = ap (step c) (inner_joins t X Y) ∙ step_joins c (inner t X) Y

inner_more : (t : List ℕ) (c : ℕ) (X : List ℕ) → inner (t ++ (c ∷ [])) X ≡ inner t (step c X)
inner_more [] c X = refl
inner_more (d ∷ t) c X = ap (step d) (inner_more t c X)

inner_append : (t u X : List ℕ) → inner (t ++ u) X ≡ inner t (inner u X)
inner_append [] u X = refl
inner_append (c ∷ t) u X = ap (step c) (inner_append t u X)

printed_append : (t u : List ℕ) → Printed t → Printed u → Printed (t ++ u)
printed_append [] u h k = k
printed_append (c ∷ t) u h k = let p = and_parts (printable c) (printables t) h in and_from (printable c) (printables (t ++ u)) p.0 (printed_append t u p.1 k)

printed_rest : (t u : List ℕ) → Printed (t ++ u) → Printed u
printed_rest [] u h = h
printed_rest (c ∷ t) u h = printed_rest t u (and_parts (printable c) (printables (t ++ u)) h).1

-- the end of a text is no code of it
not_end : (c : ℕ) (Y rest : List ℕ) → NoQuote rest → 39 ∷ rest ≡ step c Y → ⊥
not_end c Y [] h e =
    let p = step_some c Y in
    let f = p.1 in
    let i : c ≡ 39 = cc in
    let g = step_twice c Y (ap twice i) in
    cc
not_end c Y (d ∷ rest) h e =
    let p = step_some c Y in
    let f = p.1 in
    let i : c ≡ 39 = cc in
    let g = step_twice c Y (ap twice i) in
    h (cc)

-- ---- a whole text

-- what has been read is the beginning of any text that stands there
peel : (out t rest X : List ℕ) → NoQuote rest → inner out X ≡ inner t (39 ∷ rest) → (u : List ℕ) × (t ≡ out ++ u) × (X ≡ inner u (39 ∷ rest))
peel [] t rest X h e = (t, refl, e)
peel (c ∷ out) [] rest X h e = absurd (not_end c (inner out X) rest h (sym e))
peel (c ∷ out) (d ∷ t) rest X h e =
    let p = step_same c d (inner out X) (inner t (39 ∷ rest)) e in
    let k = peel out t rest X h p.1 in
    let a = p.0 in
    let b = k.1 in
    (k.0, cc, k.2)

text_same : (s t r q : List ℕ) → NoQuote r → NoQuote q → inner s (39 ∷ r) ≡ inner t (39 ∷ q) → (s ≡ t) × (r ≡ q)
text_same s t r q h k e = let p = peel s t q (39 ∷ r) k e in go p.0 p.1 p.2
  where
    go : (u : List ℕ) → t ≡ s ++ u → 39 ∷ r ≡ inner u (39 ∷ q) → (s ≡ t) × (r ≡ q)
    go [] a b = let n = append-nil s in (cc, cc)
    go (c ∷ u) a b = absurd (not_end c (inner u (39 ∷ q)) r h b)

no_quote_head : (Y R : List ℕ) → SameHead Y R → NoQuote Y → NoQuote R
no_quote_head [] [] h n = tt
no_quote_head [] (d ∷ R) h n = elim h [ ]
no_quote_head (c ∷ Y) [] h n = elim h [ ]
no_quote_head (c ∷ Y) (d ∷ R) h n = λ e. n (h ∙ e)

text_joins : (t rest : List ℕ) → 39 ∷ inner t (39 ∷ rest) ≡ (39 ∷ inner t (39 ∷ [])) ++ rest
text_joins t rest = ap (λ x. 39 ∷ x) (inner_joins t (39 ∷ []) rest)

pub text_readable : Readable Printed (λ t rest. 39 ∷ inner t (39 ∷ rest)) NoQuote TextForm
text_readable = record {
  after_end = tt;
  after_head = no_quote_head;
  joins = text_joins;
  same = λ s t r q _ _ h k e. text_same s t r q h k (cc);
  forms = λ t s h e. (h, e);
  right = λ t s f. f.0;
  shows = λ t s f. f.1;
}

-- ---- where no text goes on

pub end_none : (X : List ℕ) → X ≡ [] → NoEnd X X
end_none X e = record {
  front = [];
  splits = refl;
  word = [];
  right = refl;
  more = 39 ∷ [];
  shares = refl;
  stop = λ R s w rest a k f. go R (subst (λ (Y : List ℕ). SameHead Y R) e s) w rest f;
}
  where
    go : (R : List ℕ) → SameHead [] R → (w rest : List ℕ) → R ≡ inner w (39 ∷ rest) → ⊥
    go [] s [] rest f = cc
    go [] s (c ∷ w) rest f = let p = step_some c (inner w (39 ∷ rest)) in let q = p.1 in cc
    go (d ∷ R) s w rest f = s

end_byte : (X Z : List ℕ) (b : ℕ) → X ≡ b ∷ Z → printable b ≡ false → NoEnd X X
end_byte X Z b e n = record {
  front = [];
  splits = refl;
  word = [];
  right = refl;
  more = 39 ∷ [];
  shares = refl;
  stop = λ R s w rest a k f. go R (subst (λ (Y : List ℕ). SameHead Y R) e s) w rest a f;
}
  where
    go : (R : List ℕ) → SameHead (b ∷ Z) R → (w rest : List ℕ) → Printed w → R ≡ inner w (39 ∷ rest) → ⊥
    go [] s w rest a f = s
    go (d ∷ R) s [] rest a f =
        let i : b ≡ 39 = cc in
        let j = sym n ∙ ap printable i in
        cc
    go (d ∷ R) s (c ∷ w) rest a f =
        let p = step_some c (inner w (39 ∷ rest)) in
        let q = p.1 in
        let i : b ≡ c = cc in
        let j = sym n ∙ ap printable i ∙ (and_parts (printable c) (printables w) a).0 in
        cc

pub unprintable : (s : List ℕ) (i b : ℕ) (o : Option ℕ) → Byte s i o → o ≡ Some b → printable b ≡ false → Stands s i (Err i)
unprintable s i b None h e n = absurd (cc)
unprintable s i b (Some c) h e n = let d : c ≡ b = cc in (omega arith, λ l. l, end_byte _ _ c h.1 (ap printable d ∙ n))

-- a back quote that is not doubled
pub end_back : (X Z : List ℕ) → X ≡ 96 ∷ Z → ((rest : List ℕ) → Z ≡ 96 ∷ rest → ⊥) → NoEnd X Z
end_back X Z e n = record {
  front = 96 ∷ [];
  splits = e;
  word = 96 ∷ [];
  right = refl;
  more = 96 ∷ (39 ∷ []);
  shares = refl;
  stop = λ R s w rest a k f. go R s w rest f;
}
  where
    doubled : (R : List ℕ) → SameHead Z R → (Y : List ℕ) → R ≡ 96 ∷ Y → ⊥
    doubled R s Y f = at Z refl (subst (SameHead Z) f s)
      where
        at : (Z' : List ℕ) → Z ≡ Z' → SameHead Z' (96 ∷ Y) → ⊥
        at [] g h = h
        at (z ∷ Z') g h = n Z' (cc)

    go : (R : List ℕ) → SameHead Z R → (w rest : List ℕ) → 96 ∷ R ≡ inner w (39 ∷ rest) → ⊥
    go R s [] rest f = let z : ◌≡◌ {A = ℕ} 96 39 = cc in omega arith
    go R s (c ∷ w) rest f =
        let p = step_some c (inner w (39 ∷ rest)) in
        let q = p.1 in
        let i : c ≡ 96 = cc in
        let g = step_twice c (inner w (39 ∷ rest)) (ap twice i) in
        doubled R s (inner w (39 ∷ rest)) (cc)

-- ---- a text is being read: its codes up to the place i are t

pub record Reading (s : List ℕ) (at : ℕ) (t : List ℕ) (i : ℕ) : Type 0 where
  pub low : length t + at < i
  pub high : i ≤ length s
  pub shows : drop at s ≡ 39 ∷ inner t (drop i s)
  pub printed : Printed t

pub reading_more : (s : List ℕ) (at : ℕ) (t : List ℕ) (i c end : ℕ) → Reading s at t i → Stands s i (Ok (Some (c, end))) → Reading s at (t ++ (c ∷ [])) end
reading_more s at t i c end h k = record {
  low = simp length-append (omega (arith, h.low, k.0));
  high = k.1;
  shows = h.shows ∙ ap (λ x. 39 ∷ inner t x) k.2 ∙ ap (λ x. 39 ∷ x) (sym (inner_more t c (drop end s)));
  printed = printed_append t (c ∷ []) h.printed (and_from (printable c) true k.3 refl);
}

-- a text that begins with what was read goes on with a text's end
rest_of : (t R w rest : List ℕ) → Printed w → NoQuote rest → inner t R ≡ inner w (39 ∷ rest) → (u : List ℕ) × Printed u × (R ≡ inner u (39 ∷ rest)) × (w ≡ t ++ u)
rest_of t R w rest a k e = let p = peel t w rest R k e in (p.0, printed_rest t p.0 (subst Printed p.1 a), p.2, p.1)

pub reading_fails : (s : List ℕ) (at : ℕ) (t : List ℕ) (i : ℕ) (back : List ℕ) → Reading s at t i → NoEnd (drop i s) back → NoText (drop at s) back
reading_fails s at t i back h n = record {
  front = 39 ∷ inner t n.front;
  splits = h.shows ∙ ap (λ x. 39 ∷ inner t x) n.splits ∙ ap (λ x. 39 ∷ x) (inner_joins t n.front back);
  word = t ++ n.word;
  right = printed_append t n.word h.printed n.right;
  more = n.more;
  shares = ap (λ x. 39 ∷ x) (inner_append t n.word (39 ∷ []) ∙ ap (inner t) n.shares ∙ inner_joins t n.front n.more);
  stop = λ R m w rest a k e.
      let f : inner t (n.front ++ R) ≡ inner w (39 ∷ rest) = let j = inner_joins t n.front R in cc in
      let p = rest_of t (n.front ++ R) w rest a k f in
      n.stop R m p.0 rest p.1 k p.2;
}

pub text_none : (X : List ℕ) → ((rest : List ℕ) → X ≡ 39 ∷ rest → ⊥) → NoText X X
text_none X h = record {
  front = [];
  splits = refl;
  word = [];
  right = refl;
  more = 39 ∷ (39 ∷ []);
  shares = refl;
  stop = λ R s w rest a k e. go X refl R s w rest e;
}
  where
    go : (Y : List ℕ) → X ≡ Y → (R : List ℕ) → SameHead Y R → (w rest : List ℕ) → R ≡ 39 ∷ inner w (39 ∷ rest) → ⊥
    go [] g [] s w rest e = cc
    go [] g (d ∷ R) s w rest e = s
    go (c ∷ Y) g [] s w rest e = s
    go (c ∷ Y) g (d ∷ R) s w rest e = h Y (cc)

-- ---- the codes of the text that stands at a place

-- no code stands after those that were read
pub unquotes : (s : List ℕ) (at : ℕ) (t : List ℕ) (i : ℕ) (p : Result (Option (ℕ × ℕ)) ℕ) → Reading s at t i → Stands s i p → ((q : ℕ × ℕ) → p ≢ Ok (Some q)) → Unquotes s at t
unquotes s at t i (Ok (Some q)) h k n u Y a m f = absurd (n q refl)
unquotes s at t i (Ok None) h k n u Y a m f =
    let g = h.shows in
    (text_same t u (drop (i + 1) s) Y k.2 m (cc)).0
unquotes s at t i (Err b) h k n u Y a m f =
    let x = reading_fails s at t i (drop b s) h k.2 in
    absurd (x.stop (drop b s) (same_head_self (drop b s)) u Y a m (sym x.splits ∙ f))
