-- Words that are made of others: where a part has no right form, the whole has none.
use Rattle.std.proofs.Common.{◌≡◌, ℕ, List, [], ◌∷◌, ◌++◌, drop, sym, refl, ap, ◌∙◌, subst, append_assoc, arith}
use Rattle.reading.specs.Bytes.{Off}
use Rattle.reading.specs.Reading.{SameHead, Stuck}

pub same_head_front : (front back R : List ℕ) → SameHead back R → SameHead (front ++ back) (front ++ R)
same_head_front [] back R h = h
same_head_front (c ∷ front) back R h = refl

-- two texts with the same head begin with the same byte
pub same_head_first : (X Y : List ℕ) (c : ℕ) (rest : List ℕ) → SameHead X Y → Y ≡ c ∷ rest → (more : List ℕ) × (X ≡ c ∷ more)
same_head_first [] [] c rest h e = let z : ◌≡◌ {A = ℕ} 0 1 = cc in absurd (omega arith)
same_head_first [] (d ∷ Y) c rest h e = absurd h
same_head_first (b ∷ X) [] c rest h e = absurd h
same_head_first (b ∷ X) (d ∷ Y) c rest h e = let i : b ≡ c = cc in (X, ap (λ a. a ∷ X) i)

cancel : (front X Y : List ℕ) → front ++ X ≡ front ++ Y → X ≡ Y
cancel [] X Y e = e
cancel (c ∷ front) X Y e = let f : front ++ X ≡ front ++ Y = cc in cancel front X Y f

-- what begins with a mark does not begin with what stands where the mark does not
pub off_stop : {s : List ℕ} {at : ℕ} {mark : List ℕ} {end : ℕ} (o : Off s at mark end) (R Z : List ℕ) → SameHead (drop end s) R → o.lead ++ R ≡ mark ++ Z → ⊥
off_stop {s} {at} {mark} {end} o R Z h e =
    let f : o.lead ++ R ≡ o.lead ++ (o.next ∷ (o.tail ++ Z)) = e ∙ ap (λ m. m ++ Z) o.parts ∙ append_assoc o.lead (o.next ∷ o.tail) Z in
    let g = cancel o.lead R (o.next ∷ (o.tail ++ Z)) f in
    let p = same_head_first (drop end s) R o.next (o.tail ++ Z) h g in
    o.stop p.0 p.1

-- a word, and then another of a second kind
abbrev pub RightBoth : {V W : Type 0} → (V → Type 0) → (W → Type 0) → V × W → Type 0
RightBoth Right RightW p = Right p.0 × RightW p.1

abbrev pub shown_both : {V W : Type 0} → (V → List ℕ → List ℕ) → (W → List ℕ → List ℕ) → V × W → List ℕ → List ℕ
shown_both shown shownW p rest = shown p.0 (shownW p.1 rest)

module _ {V : Type 0} {Right : V → Type 0} {shown : V → List ℕ → List ℕ} {After : List ℕ → Type 0} where
  -- every word begins with a mark that does not stand
  pub stuck_mark : {s : List ℕ} {at : ℕ} {mark : List ℕ} {end : ℕ} → Off s at mark end → (inside : V → List ℕ → List ℕ) → ((v : V) (rest : List ℕ) → Right v → shown v rest ≡ mark ++ inside v rest) → (v : V) → Right v → Stuck Right shown After (drop at s) (drop end s)
  stuck_mark {s} {at} {mark} {end} o inside begins v r = record {
    front = o.lead;
    splits = o.shares;
    word = v;
    right = r;
    more = o.next ∷ (o.tail ++ inside v []);
    shares = begins v [] r ∙ ap (λ m. m ++ inside v []) o.parts ∙ append_assoc o.lead (o.next ∷ o.tail) (inside v []);
    stop = λ R h w rest k a e. off_stop o R (inside w rest) h (e ∙ begins w rest k);
  }

  -- words of another kind behind a mark
  pub stuck_by : {V' : Type 0} {Right' : V' → Type 0} {shown' : V' → List ℕ → List ℕ} {After' : List ℕ → Type 0}
      (mark : List ℕ) (f : V → V') → ((v : V) (rest : List ℕ) → shown' (f v) rest ≡ mark ++ shown v rest) → ((v : V) → Right v → Right' (f v)) → ((w : V') → Right' w → (v : V) × (w ≡ f v) × Right v) → ((rest : List ℕ) → After' rest → After rest)
      → (X X' back : List ℕ) → X' ≡ mark ++ X → Stuck Right shown After X back → Stuck Right' shown' After' X' back
  stuck_by {shown' = shown'} mark f shows keeps only afters X X' back e h = record {
    front = mark ++ h.front;
    splits = e ∙ ap (λ Z. mark ++ Z) h.splits ∙ sym (append_assoc mark h.front back);
    word = f h.word;
    right = keeps h.word h.right;
    more = h.more;
    shares = shows h.word [] ∙ ap (λ Z. mark ++ Z) h.shares ∙ sym (append_assoc mark h.front h.more);
    stop = λ R s w rest k a g.
        let p = only w k in
        let i : shown' w rest ≡ mark ++ shown p.0 rest = ap (λ w. shown' w rest) p.1 ∙ shows p.0 rest in
        h.stop R s p.0 rest p.2 (afters rest a) (cancel mark (h.front ++ R) (shown p.0 rest) (sym (append_assoc mark h.front R) ∙ g ∙ i));
  }

  module _ {W : Type 0} {RightW : W → Type 0} (shownW : W → List ℕ → List ℕ) {AfterW : List ℕ → Type 0}
      (joins : (v : V) (x y : List ℕ) → shown v (x ++ y) ≡ shown v x ++ y) (between : (w : W) (rest : List ℕ) → RightW w → AfterW rest → After (shownW w rest)) where
    pub stuck_first : (w : W) → RightW w → (X back : List ℕ) → Stuck Right shown After X back → Stuck (RightBoth Right RightW) (shown_both shown shownW) AfterW X back
    stuck_first w r X back h = record {
      front = h.front;
      splits = h.splits;
      word = (h.word, w);
      right = (h.right, r);
      more = h.more ++ shownW w [];
      shares = joins h.word [] (shownW w []) ∙ ap (λ Z. Z ++ shownW w []) h.shares ∙ append_assoc h.front h.more (shownW w []);
      stop = λ R s p rest k a e. h.stop R s p.0 (shownW p.1 rest) k.0 (between p.1 rest k.1 a) e;
    }

    module _ (same : (v w : V) (r q : List ℕ) → Right v → Right w → After r → After q → shown v r ≡ shown w q → (v ≡ w) × (r ≡ q)) (after_head : (Y R : List ℕ) → SameHead Y R → After Y → After R) where
      pub stuck_second : (v : V) → Right v → (X Y back : List ℕ) → After Y → X ≡ shown v Y → Stuck RightW shownW AfterW Y back → Stuck (RightBoth Right RightW) (shown_both shown shownW) AfterW X back
      stuck_second v r X Y back a e h = record {
        front = shown v h.front;
        splits = e ∙ ap (shown v) h.splits ∙ joins v h.front back;
        word = (v, h.word);
        right = (r, h.right);
        more = h.more;
        shares = ap (shown v) h.shares ∙ joins v h.front h.more;
        stop = λ R s p rest k b g.
            let i = after_head Y (h.front ++ R) (subst (λ Z. SameHead Z (h.front ++ R)) (sym h.splits) (same_head_front h.front back R s)) a in
            let j = same v p.0 (h.front ++ R) (shownW p.1 rest) r k.0 i (between p.1 rest k.1 b) (joins v h.front R ∙ g) in
            h.stop R s p.1 rest k.1 b j.1;
      }
