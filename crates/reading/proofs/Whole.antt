-- From words in the middle of a text to whole texts.
use Rattle.std.proofs.Common.{◌≡◌, ℕ, ◌<◌, ◌≤◌, Bool, true, false, cond, ltb, List, [], ◌∷◌, ◌++◌, length, drop, Ok, Err, sym, refl, ap, ◌∙◌, subst, append-nil, arith, length-append, length-drop}
use Rattle.reading.specs.declared.fault.Fault.TheVariants.{Syntax, Limit}
use Rattle.reading.specs.Reading.{Written, Wrong, Answer, SameHead, Stuck}
use Rattle.std.proofs.lemmas.List.{drop_all, drop_more}
use Rattle.std.proofs.lemmas.Bool.{ltb-true, ltb-false}

-- what a kind of word has: it is read in one way, whatever follows it
pub record Readable {V : Type 0} (Right : V → Type 0) (shown : V → List ℕ → List ℕ) (After : List ℕ → Type 0) (Form : V → List ℕ → Type 0) : Type 0 where
  pub after_end : After []
  pub after_head : (Y R : List ℕ) → SameHead Y R → After Y → After R
  pub joins : (v : V) (rest : List ℕ) → shown v rest ≡ shown v [] ++ rest
  pub same : (v w : V) (r q : List ℕ) → Right v → Right w → After r → After q → shown v r ≡ shown w q → (v ≡ w) × (r ≡ q)
  pub forms : (v : V) (s : List ℕ) → Right v → shown v [] ≡ s → Form v s
  pub right : (v : V) (s : List ℕ) → Form v s → Right v
  pub shows : (v : V) (s : List ℕ) → Form v s → shown v [] ≡ s

-- in a list that goes on from a place, the front is as long as the place
front_long : (s f : List ℕ) (end : ℕ) → s ≡ f ++ drop end s → end ≤ length s → length f ≡ end
front_long s f end e h =
    let a = ap length e in
    let b = length-append f (drop end s) in
    let c = length-drop end s in
    omega arith

pub same_head_self : (X : List ℕ) → SameHead X X
same_head_self [] = tt
same_head_self (c ∷ X) = refl

same_head_cons : (Y rest x : List ℕ) (c : ℕ) → Y ≡ c ∷ rest → SameHead Y (c ∷ x)
same_head_cons Y rest x c e = subst (λ (Z : List ℕ). SameHead Z (c ∷ x)) (sym e) refl

module _ {V : Type 0} (Right : V → Type 0) (shown : V → List ℕ → List ℕ) (After : List ℕ → Type 0) (Form : V → List ℕ → Type 0) (N : Readable Right shown After Form) (s : List ℕ) where
  pub stuck_wrong : (k : ℕ) → k ≤ length s → Stuck Right shown After s (drop k s) → Wrong Form s k
  stuck_wrong k l h = record {
    none = λ w f. h.stop (drop k s) (same_head_self (drop k s)) w [] (N.right w s f) N.after_end (sym h.splits ∙ sym (N.shows w s f));
    longest = record {
      front = h.front;
      back = drop k s;
      splits = h.splits;
      long = front_long s h.front k h.splits l;
      word = h.word;
      more = h.more;
      shares = N.forms h.word (h.front ++ h.more) h.right h.shares;
      most = λ c rest e w x f. h.stop (c ∷ x) (same_head_cons (drop k s) rest x c e) w [] (N.right w _ f) N.after_end (sym (N.shows w _ f));
    };
  }

  module _ (v : V) (end : ℕ) (right : Right v) (shows : s ≡ shown v (drop end s)) (after : After (drop end s)) where
    pub long_wrong : end < length s → Wrong Form s end
    long_wrong l =
        let d = drop_more s end 0 l in
        record {
          none = λ w f. long_not w (drop end s) _ _ d (same_head_self (drop end s)) (N.right w s f) (N.shows w s f ∙ shows);
          longest = record {
            front = shown v [];
            back = drop end s;
            splits = shows ∙ N.joins v (drop end s);
            long = front_long s (shown v []) end (shows ∙ N.joins v (drop end s)) (omega arith);
            word = v;
            more = [];
            shares = N.forms v (shown v [] ++ []) right (sym (append-nil (shown v [])));
            most = λ c rest e w x f. long_not w (c ∷ x) c x refl (same_head_cons (drop end s) rest x c e) (N.right w _ f) (N.shows w _ f ∙ sym (N.joins v (c ∷ x)));
          };
        }
      where
        long_not : (w : V) (R : List ℕ) (c : ℕ) (x : List ℕ) → R ≡ c ∷ x → SameHead (drop end s) R → Right w → shown w [] ≡ shown v R → ⊥
        long_not w R c x e h r f =
            let p = (N.same w v [] R r right N.after_end (N.after_head (drop end s) R h after) f).1 in
            cc

    pub whole_written : length s ≤ end → Written Form s v
    whole_written l =
        let d = drop_all end s l in
        let e : s ≡ shown v [] = shows ∙ ap (shown v) d in
        record {
          form = N.forms v s right (sym e);
          only = λ w f. (N.same w v [] [] (N.right w s f) right N.after_end N.after_end (N.shows w s f ∙ e)).0;
        }

    -- the word is the answer, if it is the whole text and keeps its limits
    pub answered : {X : Type 0} (keeps : V → Bool) (Means : V → X → Type 0) (fits : Bool) (x : X) → fits ≡ keeps v → (fits ≡ true → Means v x)
        → Answer Form keeps Means s (cond (ltb end (length s)) (Err (Syntax end)) (cond fits (Ok x) (Err Limit)))
    answered {X} keeps Means fits x k m = go (ltb end (length s)) refl fits k m
      where
        go : (b : Bool) → ltb end (length s) ≡ b → (f : Bool) → f ≡ keeps v → (f ≡ true → Means v x) → Answer Form keeps Means s (cond b (Err (Syntax end)) (cond f (Ok x) (Err Limit)))
        go true e f k m = long_wrong (ltb-true end (length s) e)
        go false e true k m = (v, whole_written (ltb-false end (length s) e), sym k, m refl)
        go false e false k m = (v, whole_written (ltb-false end (length s) e), sym k)
