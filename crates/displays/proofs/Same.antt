-- A display can be read in one way: two values of one type with one display are the same, and the same stands after them.
use Rattle.std.proofs.Common.{◌≡◌, ℕ, Bool, true, false, List, [], ◌∷◌, ◌++◌, pos, negsuc, sym, refl, ap, ◌∙◌, arith}
use Rattle.displays.proofs.Rows.{Elements, parted_same, row, row_same}
use Rattle.displays.specs.Forms.{Typed, Each, Alls, Both, is_number, is_text, is_comp, is_list, is_table, each_end, each_also, alls_none, alls_more, both_empty, both_pair}
use Rattle.displays.specs.Kinds.{After, shown_entry, TypedEntry, pairs_of, Kind, values, entries, Types, TypedElement, shown_element, AfterElement}
use Rattle.lists.proofs.Places.{listed_same}
use Rattle.notation.proofs.Counting.{number_readable}
use Rattle.notation.proofs.Numerals.{nat_head}
use Rattle.notation.proofs.Quoting.{text_readable}
use Rattle.notation.specs.Digits.{Digit}
use Rattle.reading.specs.Reading.{SameHead}
use Rattle.std.specs.List.{AllByRecursion}
use Rattle.tables.proofs.Places.{entries_same}
use Rattle.tables.specs.Entries.{Entry, entry, entries_of}
use Rattle.types.specs.Model.{Ty, Tys, number, texts, comps, lists, tables, end, also}
use Rattle.value_model.specs.Model.{Val, Vals, Pairs, num, text, comp, list, table, none, more, empty, pair}
use Rattle.value_model.specs.Rows.{listed, row_of}
use Rattle.writing.proofs.Joined.{shown_joins}
use Rattle.writing.specs.Displays.{shown, shown_items, shown_entries, parted}

-- ---- what may follow

-- a byte that goes on with no value
abbrev Stop : ℕ → Type 0
Stop c = (Digit c → ⊥) × (c ≡ 39 → ⊥)

after_stop : (t : Ty) (c : ℕ) (X : List ℕ) → Stop c → After t (c ∷ X)
after_stop number c X h = h.0
after_stop texts c X h = h.1
after_stop (comps ts) c X h = tt
after_stop (lists t) c X h = tt
after_stop (tables k a) c X h = tt

pub after_head : (t : Ty) (Y R : List ℕ) → SameHead Y R → After t Y → After t R
after_head number Y R h a = number_readable.after_head Y R h a
after_head texts Y R h a = text_readable.after_head Y R h a
after_head (comps ts) Y R h a = tt
after_head (lists t) Y R h a = tt
after_head (tables k u) Y R h a = tt

pub after_end : (t : Ty) → After t []
after_end number = tt
after_end texts = tt
after_end (comps ts) = tt
after_end (lists t) = tt
after_end (tables k a) = tt

pub after_fields : (t : Ty) (r : Vals) (X : List ℕ) → After t (shown_items r false 44 41 X)
after_fields t none X = after_stop t 41 X (λ d. omega arith, λ d. omega arith)
after_fields t (more v r) X = after_stop t 44 _ (λ d. omega arith, λ d. omega arith)

pub after_key : (t : Ty) (X : List ℕ) → After t (93 ∷ X)
after_key t X = after_stop t 93 X (λ d. omega arith, λ d. omega arith)

-- ---- a value of each type

abbrev mutual
  pub blank : Ty → Val
  blank number = num (pos 0)
  blank texts = text []
  blank (comps ts) = comp (blanks ts)
  blank (lists t) = list none
  blank (tables k a) = table empty

  pub blanks : Tys → Vals
  blanks end = none
  blanks (also t ts) = more (blank t) (blanks ts)

mutual
  pub blank_typed : (t : Ty) → Typed t (blank t)
  blank_typed number = is_number (pos 0)
  blank_typed texts = is_text [] refl
  blank_typed (comps ts) = is_comp (blanks_typed ts)
  blank_typed (lists t) = is_list alls_none
  blank_typed (tables k a) = is_table both_empty

  pub blanks_typed : (ts : Tys) → Each ts (blanks ts)
  blanks_typed end = each_end
  blanks_typed (also t ts) = each_also (blank_typed t) (blanks_typed ts)

-- ---- rows as lists

pub alls_listed : {t : Ty} {r : Vals} → Alls t r → AllByRecursion (Typed t) (listed r)
alls_listed alls_none = tt
alls_listed (alls_more a c) = (a, alls_listed c)

pub listed_alls : (t : Ty) (vs : List Val) → AllByRecursion (Typed t) vs → Alls t (row_of vs)
listed_alls t [] h = alls_none
listed_alls t (v ∷ vs) h = alls_more h.0 (listed_alls t vs h.1)

pub both_listed : {t u : Ty} {p : Pairs} → Both t u p → AllByRecursion (TypedEntry t u) (entries_of p)
both_listed both_empty = tt
both_listed (both_pair a b c) = ((a, b), both_listed c)

pub listed_both : (t u : Ty) (es : List Entry) → AllByRecursion (TypedEntry t u) es → Both t u (pairs_of es)
listed_both t u [] h = both_empty
listed_both t u (entry k a ∷ es) h = both_pair h.0.0 h.0.1 (listed_both t u es h.1)

items_row : (r : Vals) (first : Bool) (rest : List ℕ) → shown_items r first 59 125 rest ≡ row shown first (listed r) rest
items_row none first rest = refl
items_row (more v r) first rest = ap (λ X. parted first 59 (shown v X)) (items_row r false rest)

pub row_items : (vs : List Val) (first : Bool) (rest : List ℕ) → shown_items (row_of vs) first 59 125 rest ≡ row shown first vs rest
row_items [] first rest = refl
row_items (v ∷ vs) first rest = ap (λ X. parted first 59 (shown v X)) (row_items vs false rest)

entries_row : (p : Pairs) (first : Bool) (rest : List ℕ) → shown_entries p first rest ≡ row shown_entry first (entries_of p) rest
entries_row empty first rest = refl
entries_row (pair k a p) first rest = ap (λ X. parted first 59 (shown_entry (entry k a) X)) (entries_row p false rest)

pub row_entries : (es : List Entry) (first : Bool) (rest : List ℕ) → shown_entries (pairs_of es) first rest ≡ row shown_entry first es rest
row_entries [] first rest = refl
row_entries (entry k a ∷ es) first rest = ap (λ X. parted first 59 (shown_entry (entry k a) X)) (row_entries es false rest)

-- ---- reading in one way

-- a value does not begin as the end of a row
not_close : (v : Val) (X Y : List ℕ) → shown v X ≡ 125 ∷ Y → ⊥
not_close (num (pos n)) X Y e =
    let p = nat_head n in
    let f = p.2 in
    let z : p.0 ≡ 125 = cc in
    omega (arith, p.3)
not_close (num (negsuc n)) X Y e = let z : ◌≡◌ {A = ℕ} 45 125 = cc in omega arith
not_close (text s) X Y e = let z : ◌≡◌ {A = ℕ} 39 125 = cc in omega arith
not_close (comp r) X Y e = let z : ◌≡◌ {A = ℕ} 40 125 = cc in omega arith
not_close (list r) X Y e = let z : ◌≡◌ {A = ℕ} 123 125 = cc in omega arith
not_close (table p) X Y e = let z : ◌≡◌ {A = ℕ} 123 125 = cc in omega arith

abbrev Alike : Ty → Type 0
Alike t = (v w : Val) (r q : List ℕ) → Typed t v → Typed t w → After t r → After t q → shown v r ≡ shown w q → (v ≡ w) × (r ≡ q)

value_elements : (t : Ty) → Alike t → Elements (Typed t) shown (After t)
value_elements t same = record {
  joins = shown_joins;
  same = same;
  after_head = after_head t;
  after_sep = λ X. after_stop t 59 X (λ d. omega arith, λ d. omega arith);
  after_close = λ X. after_stop t 125 X (λ d. omega arith, λ d. omega arith);
  opens = λ v X Y r. not_close v X Y;
  some = blank t;
  some_right = blank_typed t;
}

entry_joins : (e : Entry) (x y : List ℕ) → shown_entry e (x ++ y) ≡ shown_entry e x ++ y
entry_joins (entry k a) x y = ap (λ Z. 91 ∷ Z) (ap (λ Z. shown k (93 ∷ (58 ∷ (32 ∷ Z)))) (shown_joins a x y) ∙ shown_joins k (93 ∷ (58 ∷ (32 ∷ shown a x))) y)

entry_same : (t u : Ty) → Alike t → Alike u → (d e : Entry) (r q : List ℕ) → TypedEntry t u d → TypedEntry t u e → After u r → After u q → shown_entry d r ≡ shown_entry e q → (d ≡ e) × (r ≡ q)
entry_same t u same_t sameU (entry k a) (entry l b) r q c d h i e =
    let f : shown k (93 ∷ (58 ∷ (32 ∷ shown a r))) ≡ shown l (93 ∷ (58 ∷ (32 ∷ shown b q))) = cc in
    let m = same_t k l _ _ c.0 d.0 (after_key t (58 ∷ (32 ∷ shown a r))) (after_key t (58 ∷ (32 ∷ shown b q))) f in
    let g : shown a r ≡ shown b q = cc m.1 in
    let n = sameU a b r q c.1 d.1 h i g in
    let j = m.0 in
    let o = n.0 in
    (cc, n.1)

entry_opens : (e : Entry) (X Y : List ℕ) → shown_entry e X ≡ 125 ∷ Y → ⊥
entry_opens (entry k a) X Y e = let z : ◌≡◌ {A = ℕ} 91 125 = cc in omega arith

entry_elements : (t u : Ty) → Alike t → Alike u → Elements (TypedEntry t u) shown_entry (After u)
entry_elements t u same_t sameU = record {
  joins = entry_joins;
  same = entry_same t u same_t sameU;
  after_head = after_head u;
  after_sep = (value_elements u sameU).after_sep;
  after_close = (value_elements u sameU).after_close;
  opens = λ e X Y r. entry_opens e X Y;
  some = entry (blank t) (blank u);
  some_right = (blank_typed t, blank_typed u);
}

mutual
  pub same : (t : Ty) → Alike t
  same number _ _ r q (is_number x) (is_number y) h k e = let p = number_readable.same x y r q tt tt h k e in (ap num p.0, p.1)
  same texts _ _ r q (is_text s a) (is_text t b) h k e = let p = text_readable.same s t r q a b h k e in (ap text p.0, p.1)
  same (comps ts) _ _ r q (is_comp {r = xs} a) (is_comp {r = ys} b) h k e =
      let f : shown_items xs true 44 41 r ≡ shown_items ys true 44 41 q = cc in
      let p = each_same ts true xs ys r q a b f in
      (ap comp p.0, p.1)
  same (lists t) _ _ r q (is_list {r = xs} a) (is_list {r = ys} b) h k e =
      let f : shown_items xs true 59 125 r ≡ shown_items ys true 59 125 q = cc in
      let p = row_same (value_elements t (same t)) true (listed xs) (listed ys) r q (alls_listed a) (alls_listed b) (sym (items_row xs true r) ∙ f ∙ items_row ys true q) in
      (ap list (listed_same xs ys p.0), p.1)
  same (tables k u) _ _ r q (is_table {p = xs} a) (is_table {p = ys} b) h m e =
      let f : shown_entries xs true r ≡ shown_entries ys true q = cc in
      let p = row_same (entry_elements k u (same k) (same u)) true (entries_of xs) (entries_of ys) r q (both_listed a) (both_listed b) (sym (entries_row xs true r) ∙ f ∙ entries_row ys true q) in
      (ap table (entries_same xs ys p.0), p.1)

  each_same : (ts : Tys) (first : Bool) (xs ys : Vals) (r q : List ℕ) → Each ts xs → Each ts ys → shown_items xs first 44 41 r ≡ shown_items ys first 44 41 q → (xs ≡ ys) × (r ≡ q)
  each_same end first _ _ r q each_end each_end e = (refl, cc)
  each_same (also t ts) first _ _ r q (each_also {v} {r = xs} a c) (each_also {v = w} {r = ys} b d) e =
      let f = parted_same first 44 (shown v (shown_items xs false 44 41 r)) (shown w (shown_items ys false 44 41 q)) e in
      let p = same t v w (shown_items xs false 44 41 r) (shown_items ys false 44 41 q) a b (after_fields t xs r) (after_fields t ys q) f in
      let m = each_same ts false xs ys r q c d p.1 in
      let i = p.0 in
      let j = m.0 in
      (cc, m.1)

pub elements : (k : Kind) (t : Types k) → Elements (TypedElement k t) (shown_element k) (AfterElement k t)
elements values t = value_elements t (same t)
elements entries t = entry_elements t.0 t.1 (same t.0) (same t.1)
