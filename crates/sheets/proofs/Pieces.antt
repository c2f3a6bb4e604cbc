-- The fields of a line and the lines of a sheet, by what an iterator over pieces gave.
use Rattle.std.proofs.Common.{◌≡◌, ℕ, suc, ◌+◌, ◌<◌, ◌==◌, cond, Bool, true, false, List, [], ◌∷◌, ◌++◌, map, length, take, drop, not, is_some, Some, None, Ok, Err, Option, refl, sym, ap, ◌∙◌, subst, inl, inr, arith, Bor, take-append-drop}
use Rattle.sheets.specs.declared.fields.Fields.{Fields}
use Rattle.sheets.specs.declared.fault.SheetFault.{SheetFault}
use Rattle.sheets.specs.Lines.{three, fields_of, until_empty}
use Rattle.sheets.specs.Sheets.{Line, Lines}
use Rattle.sheets.specs.Targets.{Declared}
use Rattle.std.proofs.lemmas.Bool.{ne_eqb, false≢true}
use Rattle.std.proofs.lemmas.Iterator.{YieldsList}
use Rattle.std.proofs.lemmas.Iterator.Consumers.{YieldsList-so_far, YieldsList-turn, YieldsList-end}
use Rattle.std.proofs.lemmas.List.{drop_more}
use Rattle.std.specs.Bool.{then_some}
use Rattle.std.specs.Iterator.{Yields}
use Rattle.std.specs.List.{prefix_len}
use Rattle.std.specs.Option.{option_map}

-- ---- fields

more_pieces : (ls : List (List ℕ)) → 3 < length ls → three ls ≡ None
more_pieces [] l = refl
more_pieces (a ∷ []) l = refl
more_pieces (a ∷ (b ∷ [])) l = refl
more_pieces (a ∷ (b ∷ (d ∷ []))) l = absurd (omega arith)
more_pieces (a ∷ (b ∷ (d ∷ (e ∷ ls)))) l = refl

module _ {S : Type 0} {steps : S → Option (Bor (List ℕ)) → S → Type 0} {s : S} {all : List (List ℕ)} (e : YieldsList steps (λ x. x.now) s all) (t u : S) where
  pub few_fields : (xs : List (Bor (List ℕ))) (o : Option Fields) → Yields steps s xs t → steps t None u → three (map (λ x. x.now) xs) ≡ None → o ≡ None → option_map fields_of o ≡ three all
  few_fields xs o y h n i = ap (option_map fields_of) i ∙ sym n ∙ ap three (YieldsList-end e xs t y None u refl h).0

  pub three_fields : (p : Fields) (b : Bool) (r : Option (Bor (List ℕ))) → Yields steps s (p.name ∷ (p.written_type ∷ (p.display ∷ []))) t → steps t r u → is_some r ≡ not b → option_map fields_of (then_some b p) ≡ three all
  three_fields p true None y h i = ap three (YieldsList-end e (p.name ∷ (p.written_type ∷ (p.display ∷ []))) t y None u refl h).0
  three_fields p false (Some x) y h i = sym (more_pieces all (YieldsList-turn e (p.name ∷ (p.written_type ∷ (p.display ∷ []))) t y (Some x) u x refl h).0)
  three_fields p false None y h i = absurd (false≢true i)
  three_fields p true (Some x) y h i = absurd (false≢true (sym i))

-- ---- lines

abbrev pub filled : List ℕ → Bool
filled l = not (length l == 0)

-- the pieces before the first empty one, in std's words
taken_until_empty : (ls : List (List ℕ)) → take (prefix_len filled ls) ls ≡ until_empty ls
taken_until_empty [] = refl
taken_until_empty ([] ∷ ls) = refl
taken_until_empty ((c ∷ l) ∷ ls) =
    let n : 1 + prefix_len filled ls ≡ suc (prefix_len filled ls) = omega arith in
    ap (λ b. take (cond (not b) (1 + prefix_len filled ls) 0) ((c ∷ l) ∷ ls)) (ne_eqb (length (c ∷ l)) 0 (λ z. omega arith)) ∙ ap (λ n. take n ((c ∷ l) ∷ ls)) n ∙ ap (λ r. (c ∷ l) ∷ r) (taken_until_empty ls)

pub lines_more : (ts ms us : List Declared) (ls : List (List ℕ)) (l : List ℕ) → Lines ts ls (Ok ms) → Line ms l (Ok us) → Lines ts (ls ++ l ∷ []) (Ok us)
lines_more ts ms us [] l h k = let e : ms ≡ ts = cc in (us, subst (λ r. Line r l (Ok us)) e k, refl)
lines_more ts ms us (m ∷ ls) l h k = (h.0, h.1, lines_more h.0 ms us ls l h.2 k)

-- a line that fails, whatever follows
lines_fail : (ts ms : List Declared) (f : SheetFault) (ls : List (List ℕ)) (l : List ℕ) (rest : List (List ℕ)) → Lines ts ls (Ok ms) → Line ms l (Err f) → Lines ts (ls ++ (l ∷ rest)) (Err f)
lines_fail ts ms f [] l rest h k = let e : ms ≡ ts = cc in inl (subst (λ r. Line r l (Err f)) e k)
lines_fail ts ms f (m ∷ ls) l rest h k = inr (h.0, h.1, lines_fail h.0 ms f ls l rest h.2 k)

module _ {S : Type 0} {steps : S → Option (Bor (List ℕ)) → S → Type 0} {s : S} (ls : List (List ℕ)) (e : YieldsList steps (λ x. x.now) s (take (prefix_len filled ls) ls)) (xs : List (Bor (List ℕ))) (t u : S) (y : Yields steps s xs t) where
  pub lines_end : steps t None u → map (λ x. x.now) xs ≡ until_empty ls
  lines_end h = (YieldsList-end e xs t y None u refl h).0 ∙ taken_until_empty ls

  pub lines_stop : (x : Bor (List ℕ)) (ts : List Declared) (f : SheetFault) → steps t (Some x) u → Lines [] (map (λ x. x.now) xs) (Ok ts) → Line ts x.now (Err f) → Lines [] (until_empty ls) (Err f)
  lines_stop x ts f h k l =
      let all = take (prefix_len filled ls) ls in
      let n = length xs in
      let so = YieldsList-so_far e xs t y in
      let at = YieldsList-turn e xs t y (Some x) u x refl h in
      let d = drop_more all n x.now at.0 in
      let split : map (λ x. x.now) xs ++ (x.now ∷ drop (n + 1) all) ≡ until_empty ls = let a = take-append-drop n all in let w = taken_until_empty ls in cc in
      subst (λ r. Lines [] r (Err f)) split (lines_fail [] ts f (map (λ x. x.now) xs) x.now (drop (n + 1) all) k l)
