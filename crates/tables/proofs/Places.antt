-- The operations by the search: the place, and what is from there on.
use Rattle.std.proofs.Common.{◌≡◌, ℕ, suc, ◌+◌, Bool, true, false, cond, List, [], ◌∷◌, ◌++◌, map, take, drop, Some, None, Ok, Err, Option, Result, Ordering, sym, refl, ap, ◌∙◌, subst, add-one, arith}
use Rattle.lists.proofs.Joins.{joined_map}
use Rattle.lists.specs.Joins.{Joined}
use Rattle.search.specs.Search.{rank, stands, Found, Located}
use Rattle.std.proofs.lemmas.List.{drop-drop}
use Rattle.std.specs.List.{AllZip, cons_option}
use Rattle.std.specs.Option.{option_and_then}
use Rattle.std.specs.Result.{result_ok}
use Rattle.std.specs.Ordering.{is_eq, is_lt}
use Rattle.tables.specs.Entries.{Entry, entry, entry_of, entries_of, by_key, by_entry, keyed}
use Rattle.tables.specs.Tables.{selected, changed, past, associated, deleted, entered, added}
use Rattle.value_model.specs.Model.{Val, Pairs, empty, pair, more}
use Rattle.value_model.specs.Order.{cmp}
use Rattle.value_model.specs.Rows.{row_of, keys}
use Rattle.values.proofs.Shared.{entry_clones}
use Rattle.values.specs.declared.value.Entry as code
use Rattle.values.specs.Means.{val, pairs}

pub entries_same : (q p : Pairs) → entries_of q ≡ entries_of p → q ≡ p
entries_same empty empty e = refl
entries_same empty (pair l b p) e = let z : ◌≡◌ {A = ℕ} 0 1 = cc in absurd (omega arith)
entries_same (pair k a q) empty e = let z : ◌≡◌ {A = ℕ} 0 1 = cc in absurd (omega arith)
entries_same (pair k a q) (pair l b p) e =
    let i : entries_of q ≡ entries_of p = cc in
    let j = entries_same q p i in
    let m : k ≡ l = cc in
    let n : a ≡ b = cc in
    cc

-- what entries of the code mean, one by one and as a row
pub entries_listed : (es : List code.Entry) → map entry_of es ≡ entries_of (pairs es)
entries_listed [] = refl
entries_listed (x ∷ es) = ap (◌∷◌ (entry_of x)) (entries_listed es)

module _ (by : Entry → Entry → Ordering) (e : Entry) where
  -- what f does at the place of e, it does to the table
  pub changed_related : (f : Pairs → Pairs) (R : Pairs → Pairs → Type 0) → ((r : Pairs) → R r (f r)) → ((l b : Val) (p q : Pairs) → R p q → R (pair l b p) (pair l b q)) → (p : Pairs) → R p (changed by e f p)
  changed_related f R h m empty = h empty
  changed_related f R h m (pair l b p) = go (is_lt (by (entry l b) e)) (changed_related f R h m p)
    where
      go : (t : Bool) → R p (changed by e f p) → R (pair l b p) (cond t (pair l b (changed by e f p)) (f (pair l b p)))
      go true i = m l b p (changed by e f p) i
      go false i = h (pair l b p)

  -- the entries before the place of e, and then what f makes of the others
  changed_at : (f : Pairs → Pairs) (ts ds : List code.Entry) → pairs ds ≡ f (pairs (drop (rank by e (map entry_of ts)) ts)) → pairs (take (rank by e (map entry_of ts)) ts ++ ds) ≡ changed by e f (pairs ts)
  changed_at f [] ds h = h
  changed_at f (t ∷ ts) ds h = go (is_lt (by (entry_of t) e)) (changed_at f ts ds) h
    where
      go : (s : Bool) → (pairs ds ≡ f (pairs (drop (rank by e (map entry_of ts)) ts)) → pairs (take (rank by e (map entry_of ts)) ts ++ ds) ≡ changed by e f (pairs ts)) → pairs ds ≡ f (pairs (drop (cond s (rank by e (map entry_of ts) + 1) 0) (t ∷ ts)))
          → pairs (take (cond s (rank by e (map entry_of ts) + 1) 0) (t ∷ ts) ++ ds) ≡ cond s (pair (val t.key) (val t.associate) (changed by e f (pairs ts))) (f (pairs (t ∷ ts)))
      go true i h = let a = ap (pair (val t.key) (val t.associate)) (i (rw add-one at h)) in rw add-one a
      go false i h = h

  -- whether the first entry is equal to e in the order
  abbrev heads : List code.Entry → Bool
  heads [] = false
  heads (t ∷ ts) = is_eq (by (entry_of t) e)

  standing : (ts : List code.Entry) → stands by e (map entry_of ts) ≡ heads (drop (rank by e (map entry_of ts)) ts)
  standing [] = refl
  standing (t ∷ ts) = go (is_lt (by (entry_of t) e)) (standing ts)
    where
      go : (s : Bool) → stands by e (map entry_of ts) ≡ heads (drop (rank by e (map entry_of ts)) ts) → cond s (stands by e (map entry_of ts)) (is_eq (by (entry_of t) e)) ≡ heads (drop (cond s (rank by e (map entry_of ts) + 1) 0) (t ∷ ts))
      go true i = rw add-one i
      go false i = refl

  past_heads : (ts : List code.Entry) → past by e (pairs ts) ≡ pairs (cond (heads ts) (drop 1 ts) ts)
  past_heads [] = refl
  past_heads (t ∷ ts) = elim (is_eq (by (entry_of t) e)) as (λ s. cond s (pairs ts) (pairs (t ∷ ts)) ≡ pairs (cond s ts (t ∷ ts))) [ true ↦ refl | false ↦ refl ]

entered_heads : (x : code.Entry) (ts : List code.Entry) → entered (val x.key) (val x.associate) (pairs ts) ≡ pairs (cond (heads by_entry (entry_of x) ts) ts (x ∷ ts))
entered_heads x [] = refl
entered_heads x (t ∷ ts) =
    elim (is_eq (by_entry (entry_of t) (entry_of x))) as (λ s. cond s (pairs (t ∷ ts)) (pairs (x ∷ t ∷ ts)) ≡ pairs (cond s (t ∷ ts) (x ∷ t ∷ ts))) [ true ↦ refl | false ↦ refl ]

-- ---- the operations on a row ts that means what es means, by what is found in es

-- what stands from the place of k on, with a as its associate
abbrev pub replaced : Val → Val → Pairs → Pairs
replaced k a r = pair k a (past by_key (keyed k) r)

-- without the entry of k
abbrev pub without : Val → Pairs → Pairs
without k p = changed by_key (keyed k) (past by_key (keyed k)) p

module _ (es ts : List code.Entry) (same : pairs ts ≡ pairs es) (n : ℕ) (found : Bool) where
  module _ {by : Entry → Entry → Ordering} {e : Entry} (f : Found by e (map entry_of es) n found (drop n (map entry_of es))) where
    there : (n ≡ rank by e (map entry_of ts)) × (found ≡ stands by e (map entry_of ts))
    there = subst (λ ks. (n ≡ rank by e ks) × (found ≡ stands by e ks)) (entries_listed es ∙ ap entries_of (sym same) ∙ sym (entries_listed ts)) (f.place, f.here)

    heads_found : heads by e (drop n ts) ≡ found
    heads_found = let s = standing by e ts in cc (there.0, there.1)

    changed_found : (g : Pairs → Pairs) (ds : List code.Entry) → g (pairs (drop n ts)) ≡ pairs ds → pairs (take n ts ++ ds) ≡ changed by e g (pairs es)
    changed_found g ds h = rw there.0 (changed_at by e g ts ds (rw there.0 at (sym h))) ∙ ap (changed by e g) same

    -- the entries from the place of e on, without that of e
    past_found : past by e (pairs (drop n ts)) ≡ pairs (drop (cond found (suc n) n) ts)
    past_found = past_heads by e (drop n ts) ∙ ap (λ s. pairs (cond s (drop 1 (drop n ts)) (drop n ts))) heads_found ∙ ap pairs (later found)
      where
        later : (s : Bool) → cond s (drop 1 (drop n ts)) (drop n ts) ≡ drop (cond s (suc n) n) ts
        later true = drop-drop 1 n ts ∙ rw add-one refl
        later false = refl

  pub put_found : (x : code.Entry) → Found by_key (keyed (val x.key)) (map entry_of es) n found (drop n (map entry_of es)) → pairs (take n ts ++ x ∷ drop (cond found (suc n) n) ts) ≡ associated (val x.key) (val x.associate) (pairs es)
  put_found x f = changed_found f (replaced (val x.key) (val x.associate)) (x ∷ drop (cond found (suc n) n) ts) (ap (pair (val x.key) (val x.associate)) (past_found f))

  pub without_found : (k : Val) → Found by_key (keyed k) (map entry_of es) n found (drop n (map entry_of es)) → pairs (take n ts ++ drop (cond found (suc n) n) ts) ≡ without k (pairs es)
  without_found k f = changed_found f (past by_key (keyed k)) (drop (cond found (suc n) n) ts) (past_found f)

  pub added_found : (x : code.Entry) → Found by_entry (entry_of x) (map entry_of es) n found (drop n (map entry_of es)) → pairs (take n ts ++ cond found (drop n ts) (x ∷ drop n ts)) ≡ added (val x.key) (val x.associate) (pairs es)
  added_found x f = changed_found f (entered (val x.key) (val x.associate)) (cond found (drop n ts) (x ∷ drop n ts)) (entered_heads x (drop n ts) ∙ ap (λ s. pairs (cond s (drop n ts) (x ∷ drop n ts))) (heads_found f))

-- what a row edited at one place means
same_entries : (ds es : List code.Entry) → AllZip (λ d e. (val e.key ≡ val d.key) × (val e.associate ≡ val d.associate)) ds es → map entry_of es ≡ map entry_of ds
same_entries ds es h = entries_listed es ∙ ap entries_of (entry_clones ds es h) ∙ sym (entries_listed ds)

pub joined_pairs : (xs zs ws : List code.Entry) (item : Option code.Entry) → Joined (λ d e. (val e.key ≡ val d.key) × (val e.associate ≡ val d.associate)) xs item zs ws → pairs ws ≡ pairs (xs ++ cons_option item zs)
joined_pairs xs zs ws item j = entries_same _ _ (sym (entries_listed ws) ∙ joined_map entry_of _ same_entries xs zs ws item j ∙ entries_listed (xs ++ cons_option item zs))

-- ---- the associate of k

abbrev first_associate : List code.Entry → Option Val
first_associate [] = None
first_associate (t ∷ ts) = Some (val t.associate)

selected_heads : (k : Val) (ts : List code.Entry) → selected k (pairs ts) ≡ cond (stands by_key (keyed k) (map entry_of ts)) (first_associate (drop (rank by_key (keyed k) (map entry_of ts)) ts)) None
selected_heads k [] = refl
selected_heads k (t ∷ ts) = go (is_lt (cmp (val t.key) k)) (selected_heads k ts)
  where
    go : (s : Bool) → selected k (pairs ts) ≡ cond (stands by_key (keyed k) (map entry_of ts)) (first_associate (drop (rank by_key (keyed k) (map entry_of ts)) ts)) None
        → cond s (selected k (pairs ts)) (cond (is_eq (cmp (val t.key) k)) (Some (val t.associate)) None) ≡ cond (cond s (stands by_key (keyed k) (map entry_of ts)) (is_eq (cmp (val t.key) k))) (first_associate (drop (cond s (rank by_key (keyed k) (map entry_of ts) + 1) 0) (t ∷ ts))) None
    go true i = rw add-one i
    go false i = refl

pub selected_located : (k : Val) (ts : List code.Entry) (r : Result ℕ ℕ) → Located by_key (keyed k) (map entry_of ts) r → selected k (pairs ts) ≡ option_and_then (λ i. first_associate (drop i ts)) (result_ok r)
selected_located k ts (Ok i) f = let s = selected_heads k ts in grind arith
selected_located k ts (Err i) f = let s = selected_heads k ts in grind arith

pub deleted_located : (k : Val) (es : List code.Entry) (n : ℕ) (found : Bool) → Found by_key (keyed k) (map entry_of es) n found (drop n (map entry_of es)) → deleted k (pairs es) ≡ cond found (Some (without k (pairs es))) None
deleted_located k es n found f = ap (λ t. cond t (Some (without k (pairs es))) None) (sym (f.here ∙ ap (stands by_key (keyed k)) (entries_listed es)))

-- ---- the keys

pub keys_listed : (es : List code.Entry) → row_of (map (λ e. val e.key) es) ≡ keys (pairs es)
keys_listed [] = refl
keys_listed (x ∷ es) = ap (more (val x.key)) (keys_listed es)
