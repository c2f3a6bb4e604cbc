-- Names: where a text stops being one.
use Rattle.std.proofs.Common.{◌≡◌, ℕ, ◌+◌, ◌<◌, ◌≤◌, Bool, true, false, cond, List, [], ◌∷◌, ◌++◌, length, refl, ap, ◌∙◌, ◌⊎◌, subst, append-nil, arith, length-append}
use Rattle.std.specs.List.{prefix_len}
use Rattle.notation.specs.Names.{letter, name_code, name_codes, NameForm, name_front}
use Rattle.reading.specs.Reading.{Written, Wrong}
use Rattle.std.proofs.lemmas.Bool.{and_parts, and_from}

-- the run, and what stops it
record Cut (s : List ℕ) : Type 0 where
  front : List ℕ
  back : List ℕ
  splits : s ≡ front ++ back
  long : length front ≡ prefix_len name_code s
  codes : name_codes front ≡ true
  stop : (c : ℕ) (rest : List ℕ) → back ≡ c ∷ rest → name_code c ≡ false

cut : (s : List ℕ) → Cut s
cut [] = record { front = []; back = []; splits = refl; long = refl; codes = refl; stop = λ c rest e. absurd (cc) }
cut (c ∷ s) = go (name_code c) refl (cut s)
  where
    go : (b : Bool) → name_code c ≡ b → Cut s → Cut (c ∷ s)
    go true h p =
        let l = p.long in
        record {
          front = c ∷ p.front;
          back = p.back;
          splits = ap (λ x. c ∷ x) p.splits;
          long = rw (h, l) (omega arith);
          codes = and_from (name_code c) (name_codes p.front) h p.codes;
          stop = p.stop;
        }
    go false h p = record { front = []; back = c ∷ s; splits = refl; long = rw h; codes = refl; stop = λ d rest e. let i : d ≡ c = cc in ap name_code i ∙ h }

codes_at : (f : List ℕ) (d : ℕ) (x : List ℕ) → name_codes (f ++ (d ∷ x)) ≡ true → name_code d ≡ true
codes_at [] d x h = (and_parts (name_code d) (name_codes x) h).0
codes_at (c ∷ f) d x h = codes_at f d x (and_parts (name_code c) (name_codes (f ++ (d ∷ x))) h).1

-- ---- what is no name

no_true : {P : Type 0} (b : Bool) → b ≡ true → b ≡ false → P
no_true b e f = absurd (cc)

abbrev a_name : List ℕ
a_name = 97 ∷ []

name_none : Wrong NameForm [] 0
name_none = record {
  none = λ w f. no_true false f.1 refl;
  longest = record {
    front = [];
    back = [];
    splits = refl;
    long = refl;
    word = a_name;
    more = a_name;
    shares = (refl, refl);
    most = λ c rest e w x f. cc;
  };
}

name_first : (c : ℕ) (s : List ℕ) → letter c ≡ false → Wrong NameForm (c ∷ s) 0
name_first c s h = record {
  none = λ w f. no_true (letter c) (and_parts (letter c) (name_codes s) f.1).0 h;
  longest = record {
    front = [];
    back = c ∷ s;
    splits = refl;
    long = refl;
    word = a_name;
    more = a_name;
    shares = (refl, refl);
    most = λ d rest e w x f. no_true (letter d) (and_parts (letter d) (name_codes x) f.1).0 (let i : d ≡ c = cc in ap letter i ∙ h);
  };
}

name_later : (c : ℕ) (s : List ℕ) → letter c ≡ true → prefix_len name_code s < length s → Wrong NameForm (c ∷ s) (1 + prefix_len name_code s)
name_later c s h l = go (cut s)
  where
    go : Cut s → Wrong NameForm (c ∷ s) (1 + prefix_len name_code s)
    go p = at p.back refl
      where
        at : (b : List ℕ) → p.back ≡ b → Wrong NameForm (c ∷ s) (1 + prefix_len name_code s)
        at [] e =
            let m = ap length (p.splits ∙ ap (λ x. p.front ++ x) e ∙ append-nil p.front) in
            let n = p.long in
            absurd (omega arith)
        at (d ∷ b) e = record {
          none = λ w f.
              let i = (and_parts (letter c) (name_codes s) f.1).1 in
              no_true (name_code d) (codes_at p.front d b (subst (λ x. name_codes x ≡ true) (p.splits ∙ ap (λ x. p.front ++ x) e) i)) (p.stop d b e);
          longest = record {
            front = c ∷ p.front;
            back = p.back;
            splits = ap (λ x. c ∷ x) p.splits;
            long = let n = p.long in omega arith;
            word = c ∷ (p.front ++ []);
            more = [];
            shares = (refl, and_from (letter c) (name_codes (p.front ++ [])) h (ap name_codes (append-nil p.front) ∙ p.codes));
            most = λ k rest g w x f. no_true (name_code k) (codes_at p.front k x (and_parts (letter c) (name_codes (p.front ++ (k ∷ x))) f.1).1) (p.stop k rest g);
          };
        }

pub name_wrong : (s : List ℕ) → (name_front s ≡ 0) ⊎ (name_front s < length s) → Wrong NameForm s (name_front s)
name_wrong [] l = name_none
name_wrong (c ∷ s) l = go (letter c) refl l
  where
    go : (b : Bool) → letter c ≡ b → (cond b (1 + prefix_len name_code s) 0 ≡ 0) ⊎ (cond b (1 + prefix_len name_code s) 0 < length (c ∷ s)) → Wrong NameForm (c ∷ s) (cond b (1 + prefix_len name_code s) 0)
    go true h l = name_later c s h (omega arith)
    go false h l = name_first c s h

pub name_written : (s : List ℕ) → 0 < name_front s → length s ≤ name_front s → Written NameForm s s
name_written [] h l = absurd (omega arith)
name_written (c ∷ s) h l = go (letter c) refl l (cut s)
  where
    go : (b : Bool) → letter c ≡ b → length (c ∷ s) ≤ cond b (1 + prefix_len name_code s) 0 → Cut s → Written NameForm (c ∷ s) (c ∷ s)
    go false e l p = absurd (omega arith)
    go true e l p = record { form = (refl, and_from (letter c) (name_codes s) e (at p.back refl)); only = λ w f. f.0 }
      where
        at : (b : List ℕ) → p.back ≡ b → name_codes s ≡ true
        at [] g = ap name_codes (p.splits ∙ ap (λ x. p.front ++ x) g ∙ append-nil p.front) ∙ p.codes
        at (d ∷ b) g =
            let m = ap length (p.splits ∙ ap (λ x. p.front ++ x) g) ∙ length-append p.front (d ∷ b) in
            let n = p.long in
            absurd (omega arith)
