-- Rows of words of one kind, parted by a semicolon and a blank, up to a closing brace.
use Rattle.std.proofs.Common.{◌≡◌, ℕ, Bool, true, false, List, [], ◌∷◌, ◌++◌, drop, sym, refl, ap, ◌∙◌, subst, append_assoc, arith}
use Rattle.displays.proofs.Stucks.{same_head_front, same_head_first, off_stop, RightBoth, shown_both, stuck_first, stuck_second}
use Rattle.reading.specs.Bytes.{Off}
use Rattle.reading.specs.Reading.{SameHead, Stuck}
use Rattle.std.specs.List.{AllByRecursion}
use Rattle.writing.specs.Displays.{parted}

-- what a kind of word has that stands in rows: it is read in one way, whatever follows it, and is no closing brace
pub record Elements {V : Type 0} (Right : V → Type 0) (shown : V → List ℕ → List ℕ) (After : List ℕ → Type 0) : Type 0 where
  pub joins : (v : V) (x y : List ℕ) → shown v (x ++ y) ≡ shown v x ++ y
  pub same : (v w : V) (r q : List ℕ) → Right v → Right w → After r → After q → shown v r ≡ shown w q → (v ≡ w) × (r ≡ q)
  pub after_head : (Y R : List ℕ) → SameHead Y R → After Y → After R
  pub after_sep : (X : List ℕ) → After (59 ∷ X)
  pub after_close : (X : List ℕ) → After (125 ∷ X)
  pub opens : (v : V) (X Y : List ℕ) → Right v → shown v X ≡ 125 ∷ Y → ⊥
  pub some : V
  pub some_right : Right some

pub parted_joins : (first : Bool) (sep : ℕ) (x y : List ℕ) → parted first sep (x ++ y) ≡ parted first sep x ++ y
parted_joins true sep x y = refl
parted_joins false sep x y = refl

pub parted_same : (first : Bool) (sep : ℕ) (x y : List ℕ) → parted first sep x ≡ parted first sep y → x ≡ y
parted_same true sep x y e = e
parted_same false sep x y e = cc

module _ {V : Type 0} (shown : V → List ℕ → List ℕ) where
  -- words one after the other, and then the rest
  abbrev pub run : List V → Bool → List ℕ → List ℕ
  run [] first Z = Z
  run (v ∷ vs) first Z = parted first 59 (shown v (run vs false Z))

  -- whether what follows the words is still the first
  abbrev pub still : Bool → List V → Bool
  still first [] = first
  still first (v ∷ vs) = false

  pub run_last : (vs : List V) (first : Bool) (v : V) (Z : List ℕ) → run (vs ++ v ∷ []) first Z ≡ run vs first (parted (still first vs) 59 (shown v Z))
  run_last [] first v Z = refl
  run_last (w ∷ vs) first v Z = ap (λ Y. parted first 59 (shown w Y)) (run_last vs false v Z ∙ ap (run vs false) (go vs))
    where
      go : (vs : List V) → parted (still false vs) 59 (shown v Z) ≡ parted false 59 (shown v Z)
      go [] = refl
      go (u ∷ us) = refl

-- a row of words: the words, and then the closing brace
abbrev pub row : {V : Type 0} → (V → List ℕ → List ℕ) → Bool → List V → List ℕ → List ℕ
row shown first vs rest = run shown vs first (125 ∷ rest)

abbrev pub Any : List ℕ → Type 0
Any X = Unit {0}

module _ {V : Type 0} {Right : V → Type 0} {shown : V → List ℕ → List ℕ} {After : List ℕ → Type 0} (E : Elements Right shown After) where
  pub after_row : (vs : List V) (rest : List ℕ) → After (row shown false vs rest)
  after_row [] rest = E.after_close rest
  after_row (v ∷ vs) rest = E.after_sep _

  -- no words are not a row of words
  not_closed : (first : Bool) (v : V) (X Y : List ℕ) → Right v → parted first 59 (shown v X) ≡ 125 ∷ Y → ⊥
  not_closed true v X Y r e = E.opens v X Y r e
  not_closed false v X Y r e = let z : ◌≡◌ {A = ℕ} 59 125 = cc in omega arith

  pub row_same : (first : Bool) (vs ws : List V) (r q : List ℕ) → AllByRecursion Right vs → AllByRecursion Right ws → row shown first vs r ≡ row shown first ws q → (vs ≡ ws) × (r ≡ q)
  row_same first [] [] r q a b e = (refl, cc)
  row_same first [] (w ∷ ws) r q a b e = absurd (not_closed first w (row shown false ws q) r b.0 (sym e))
  row_same first (v ∷ vs) [] r q a b e = absurd (not_closed first v (row shown false vs r) q a.0 e)
  row_same first (v ∷ vs) (w ∷ ws) r q a b e =
      let f = parted_same first 59 (shown v (row shown false vs r)) (shown w (row shown false ws q)) e in
      let p = E.same v w (row shown false vs r) (row shown false ws q) a.0 b.0 (after_row vs r) (after_row ws q) f in
      let m = row_same false vs ws r q a.1 b.1 p.1 in
      let i = p.0 in
      let j = m.0 in
      (cc, m.1)

  -- the first word of a row, and the others, if there is a word
  stuck_cons : (first : Bool) (X back : List ℕ) → (first ≡ true → (rest : List ℕ) → X ≡ 125 ∷ rest → ⊥) → Stuck (RightBoth Right (AllByRecursion Right)) (shown_both shown (row shown false)) Any X back → Stuck (AllByRecursion Right) (row shown first) Any (parted first 59 X) back
  stuck_cons first X back closed h = record {
    front = parted first 59 h.front;
    splits = ap (parted first 59) h.splits ∙ parted_joins first 59 h.front back;
    word = h.word.0 ∷ h.word.1;
    right = h.right;
    more = h.more;
    shares = ap (parted first 59) h.shares ∙ parted_joins first 59 h.front h.more;
    stop = λ R s ws rest k a e. stop first closed R s ws rest k (parted_joins first 59 h.front R ∙ e);
  }
    where
      stop : (first : Bool) → (first ≡ true → (rest : List ℕ) → X ≡ 125 ∷ rest → ⊥) → (R : List ℕ) → SameHead back R → (ws : List V) (rest : List ℕ) → AllByRecursion Right ws → parted first 59 (h.front ++ R) ≡ row shown first ws rest → ⊥
      stop true closed R s [] rest k e =
          let p = same_head_first X (h.front ++ R) 125 rest (subst (λ Z. SameHead Z (h.front ++ R)) (sym h.splits) (same_head_front h.front back R s)) e in
          closed refl p.0 p.1
      stop false closed R s [] rest k e = let z : ◌≡◌ {A = ℕ} 59 125 = cc in omega arith
      stop first closed R s (w ∷ ws) rest k e = h.stop R s (w, ws) rest k tt (parted_same first 59 (h.front ++ R) (shown w (row shown false ws rest)) e)

  between : (ws : List V) (rest : List ℕ) → AllByRecursion Right ws → Any rest → After (row shown false ws rest)
  between ws rest k a = after_row ws rest

  -- no word stands where one is to stand
  pub stuck_element : (first : Bool) (X back : List ℕ) → (first ≡ true → (rest : List ℕ) → X ≡ 125 ∷ rest → ⊥) → Stuck Right shown After X back → Stuck (AllByRecursion Right) (row shown first) Any (parted first 59 X) back
  stuck_element first X back closed h = stuck_cons first X back closed (stuck_first (row shown false) E.joins between [] tt X back h)

  stuck_after : (first : Bool) (v : V) → Right v → (Y back : List ℕ) → After Y → Stuck (AllByRecursion Right) (row shown false) Any Y back → Stuck (AllByRecursion Right) (row shown first) Any (parted first 59 (shown v Y)) back
  stuck_after first v r Y back a h = stuck_cons first (shown v Y) back (λ _ rest e. E.opens v Y rest r e) (stuck_second (row shown false) E.joins between E.same E.after_head v r (shown v Y) Y back a refl h)

  -- what follows some words may follow the last of them
  abbrev pub Follows : List V → List ℕ → Type 0
  Follows [] Z = Unit {0}
  Follows (v ∷ vs) Z = After Z

  -- after the words of a run the row does not go on
  pub stuck_run : (first : Bool) (vs : List V) → AllByRecursion Right vs → (Z back : List ℕ) → Follows vs Z → Stuck (AllByRecursion Right) (row shown (still shown first vs)) Any Z back → Stuck (AllByRecursion Right) (row shown first) Any (run shown vs first Z) back
  stuck_run first [] r Z back a h = h
  stuck_run first (v ∷ []) r Z back a h = stuck_after first v r.0 Z back a h
  stuck_run first (v ∷ (w ∷ vs)) r Z back a h = stuck_after first v r.0 (run shown (w ∷ vs) false Z) back (E.after_sep _) (stuck_run false (w ∷ vs) r.1 Z back a h)

  -- neither the closing brace nor another word
  pub stuck_follow : {s : List ℕ} {at end : ℕ} → Off s at (59 ∷ (32 ∷ [])) end → ((rest : List ℕ) → drop at s ≡ 125 ∷ rest → ⊥) → Stuck (AllByRecursion Right) (row shown false) Any (drop at s) (drop end s)
  stuck_follow {s} {at} {end} o n = record {
    front = o.lead;
    splits = o.shares;
    word = E.some ∷ [];
    right = (E.some_right, tt);
    more = o.next ∷ (o.tail ++ shown E.some (125 ∷ []));
    shares = ap (λ m. m ++ shown E.some (125 ∷ [])) o.parts ∙ append_assoc o.lead (o.next ∷ o.tail) (shown E.some (125 ∷ []));
    stop = λ R h ws rest k a e. stop R h ws rest e;
  }
    where
      stop : (R : List ℕ) → SameHead (drop end s) R → (ws : List V) (rest : List ℕ) → o.lead ++ R ≡ row shown false ws rest → ⊥
      stop R h [] rest e =
          let p = same_head_first (drop at s) (o.lead ++ R) 125 rest (subst (λ Z. SameHead Z (o.lead ++ R)) (sym o.shares) (same_head_front o.lead (drop end s) R h)) e in
          n p.0 p.1
      stop R h (w ∷ ws) rest e = off_stop o R (shown w (row shown false ws rest)) h e
