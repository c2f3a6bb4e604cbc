-- The two orders of entries are total, and a change at one place keeps them.
use Rattle.std.proofs.Common.{◌≡◌, ℕ, Bool, true, false, cond, not, ◌&&◌, Ordering, Less, Equal, Greater, sym, refl, ap, ◌∙◌, arith}
use Rattle.search.proofs.Orders.{is_less, is_equal}
use Rattle.search.specs.Search.{TotalOrder}
use Rattle.std.proofs.lemmas.Bool.{and_parts, and_from}
use Rattle.std.specs.Ordering.{is_eq, is_lt, ordering_then, ordering_reverse}
use Rattle.tables.specs.Entries.{Entry, entry, by_key, by_entry, keyed}
use Rattle.tables.specs.Laws.{leads_in, ascending_in}
use Rattle.tables.specs.Tables.{changed, past, entered}
use Rattle.types.specs.Types.{ascending_keys}
use Rattle.value_model.proofs.Ordered.{cmp_order, cmp_same}
use Rattle.value_model.specs.Model.{Val, Pairs, empty, pair, comp, none, more}
use Rattle.value_model.specs.Order.{cmp}

pub by_key_order : TotalOrder by_key
by_key_order = record { flip = flip; trans = trans; alike = alike }
  where
    flip : (x y : Entry) → by_key x y ≡ ordering_reverse (by_key y x)
    flip (entry k a) (entry l b) = cmp_order.flip k l

    trans : (x y z : Entry) → by_key x y ≡ Less → by_key y z ≡ Less → by_key x z ≡ Less
    trans (entry k a) (entry l b) (entry m c) h i = cmp_order.trans k l m h i

    alike : (x y z : Entry) → by_key x y ≡ Equal → by_key x z ≡ by_key y z
    alike (entry k a) (entry l b) (entry m c) h = cmp_order.alike k l m h

-- entries compare as compounds of a key and an associate
abbrev fields : Entry → Val
fields (entry k a) = comp (more k (more a none))

then_equal : (x y : Ordering) → ordering_then x y ≡ ordering_then x (ordering_then y Equal)
then_equal x Less = refl
then_equal x Equal = refl
then_equal x Greater = refl

as_fields : (x y : Entry) → by_entry x y ≡ cmp (fields x) (fields y)
as_fields (entry k a) (entry l b) = then_equal (cmp k l) (cmp a b)

pub by_entry_order : TotalOrder by_entry
by_entry_order = record {
  flip = λ x y. as_fields x y ∙ cmp_order.flip (fields x) (fields y) ∙ ap ordering_reverse (sym (as_fields y x));
  trans = λ x y z h i. as_fields x z ∙ cmp_order.trans (fields x) (fields y) (fields z) (sym (as_fields x y) ∙ h) (sym (as_fields y z) ∙ i);
  alike = λ x y z h. as_fields x z ∙ cmp_order.alike (fields x) (fields y) (fields z) (sym (as_fields x y) ∙ h) ∙ sym (as_fields y z);
}

pub by_entry_same : (x y : Entry) → by_entry x y ≡ Equal → x ≡ y
by_entry_same (entry k a) (entry l b) h =
    let i : comp (more k (more a none)) ≡ comp (more l (more b none)) = cmp_same _ _ (sym (as_fields (entry k a) (entry l b)) ∙ h) in
    let j : k ≡ l = cc in
    let m : a ≡ b = cc in
    cc

-- ---- a change at one place

module _ (by : Entry → Entry → Ordering) (o : TotalOrder by) (e : Entry) where
  -- the first entry is not below e
  abbrev from_place : Pairs → Bool
  from_place empty = true
  from_place (pair l b p) = not (is_lt (by (entry l b) e))

  -- f keeps the order of entries from the place of e on, and leaves them above what is before the place
  pub record Fitting (f : Pairs → Pairs) : Type 0 where
    pub keeps : (r : Pairs) → ascending_in by r ≡ true → from_place r ≡ true → ascending_in by (f r) ≡ true
    pub above : (x : Entry) (r : Pairs) → by x e ≡ Less → leads_in by x r ≡ true → ascending_in by r ≡ true → leads_in by x (f r) ≡ true

  leads_changed : (f : Pairs → Pairs) → Fitting f → (x : Entry) (p : Pairs) → by x e ≡ Less → leads_in by x p ≡ true → ascending_in by p ≡ true → leads_in by x (changed by e f p) ≡ true
  leads_changed f h x empty l i a = h.above x empty l i a
  leads_changed f h x (pair m c p) l i a = go (is_lt (by (entry m c) e))
    where
      go : (t : Bool) → leads_in by x (cond t (pair m c (changed by e f p)) (f (pair m c p))) ≡ true
      go true = i
      go false = h.above x (pair m c p) l i a

  pub changed_ascending : (f : Pairs → Pairs) → Fitting f → (p : Pairs) → ascending_in by p ≡ true → ascending_in by (changed by e f p) ≡ true
  changed_ascending f h empty a = h.keeps empty a refl
  changed_ascending f h (pair l b p) a =
      let i = and_parts (leads_in by (entry l b) p) (ascending_in by p) a in
      go (is_lt (by (entry l b) e)) refl i.0 i.1 (changed_ascending f h p i.1)
    where
      go : (t : Bool) → is_lt (by (entry l b) e) ≡ t → leads_in by (entry l b) p ≡ true → ascending_in by p ≡ true → ascending_in by (changed by e f p) ≡ true → ascending_in by (cond t (pair l b (changed by e f p)) (f (pair l b p))) ≡ true
      go true s i j m = and_from (leads_in by (entry l b) (changed by e f p)) (ascending_in by (changed by e f p)) (leads_changed f h (entry l b) p (is_less (by (entry l b) e) s) i j) m
      go false s i j m = h.keeps (pair l b p) a (ap not s)

  pub past_fitting : Fitting (past by e)
  past_fitting = record { keeps = keeps; above = above }
    where
      keeps : (r : Pairs) → ascending_in by r ≡ true → from_place r ≡ true → ascending_in by (past by e r) ≡ true
      keeps empty a n = refl
      keeps (pair l b p) a n = elim (is_eq (by (entry l b) e)) as (λ t. ascending_in by (cond t p (pair l b p)) ≡ true) [ true ↦ (and_parts (leads_in by (entry l b) p) (ascending_in by p) a).1 | false ↦ a ]

      beyond : (x : Entry) (l b : Val) (p : Pairs) → is_lt (by x (entry l b)) ≡ true → leads_in by (entry l b) p ≡ true → leads_in by x p ≡ true
      beyond x l b empty h i = refl
      beyond x l b (pair m c p) h i = ap is_lt (o.trans x (entry l b) (entry m c) (is_less _ h) (is_less _ i))

      above : (x : Entry) (r : Pairs) → by x e ≡ Less → leads_in by x r ≡ true → ascending_in by r ≡ true → leads_in by x (past by e r) ≡ true
      above x empty l h a = refl
      above x (pair m c p) l h a =
          let i = and_parts (leads_in by (entry m c) p) (ascending_in by p) a in
          elim (is_eq (by (entry m c) e)) as (λ t. leads_in by x (cond t p (pair m c p)) ≡ true) [ true ↦ beyond x m c p h i.0 | false ↦ h ]

  -- the entry of k and a compares as e does
  pub put_fitting : (k a : Val) → ((x : Entry) → by x (entry k a) ≡ by x e) → Fitting (λ r. pair k a (past by e r))
  put_fitting k a s = record { keeps = keeps; above = λ x r l h i. ap is_lt (s x ∙ l) }
    where
      ahead : (x : Entry) → by (entry k a) x ≡ by e x
      ahead x = o.flip (entry k a) x ∙ ap ordering_reverse (s x) ∙ sym (o.flip e x)

      before : (l b : Val) (p : Pairs) → by (entry l b) e ≡ Equal → leads_in by (entry l b) p ≡ true → leads_in by (entry k a) p ≡ true
      before l b empty h i = refl
      before l b (pair m c p) h i = ap is_lt (ahead (entry m c) ∙ sym (o.alike (entry l b) e (entry m c) h)) ∙ i

      keeps : (r : Pairs) → ascending_in by r ≡ true → from_place r ≡ true → ascending_in by (pair k a (past by e r)) ≡ true
      keeps empty i n = refl
      keeps (pair l b p) i n = go (by (entry l b) e) refl n
        where
          go : (r : Ordering) → by (entry l b) e ≡ r → not (is_lt r) ≡ true → ascending_in by (pair k a (cond (is_eq r) p (pair l b p))) ≡ true
          go Less h n = let z : ◌≡◌ {A = ℕ} 0 1 = cc in absurd (omega arith)
          go Equal h n =
              let j = and_parts (leads_in by (entry l b) p) (ascending_in by p) i in
              and_from (leads_in by (entry k a) p) (ascending_in by p) (before l b p h j.0) j.1
          go Greater h n = and_from (is_lt (by (entry k a) (entry l b))) (ascending_in by (pair l b p)) (ap is_lt (ahead (entry l b) ∙ o.flip e (entry l b) ∙ ap ordering_reverse h)) i

-- ---- tables

pub ascending_by_key : (p : Pairs) → ascending_in by_key p ≡ ascending_keys p
ascending_by_key empty = refl
ascending_by_key (pair k a empty) = refl
ascending_by_key (pair k a (pair l b p)) = ap (λ t. is_lt (cmp k l) && t) (ascending_by_key (pair l b p))

pub keyed_alike : (k a : Val) (x : Entry) → by_key x (entry k a) ≡ by_key x (keyed k)
keyed_alike k a (entry l b) = refl

-- the entry that stands is the one that would be put in its place
pub entered_past : (k a : Val) (r : Pairs) → entered k a r ≡ pair k a (past by_entry (entry k a) r)
entered_past k a empty = refl
entered_past k a (pair l b p) = go (is_eq (by_entry (entry l b) (entry k a))) refl
  where
    go : (t : Bool) → is_eq (by_entry (entry l b) (entry k a)) ≡ t → cond t (pair l b p) (pair k a (pair l b p)) ≡ pair k a (cond t p (pair l b p))
    go true h =
        let i = by_entry_same (entry l b) (entry k a) (is_equal (by_entry (entry l b) (entry k a)) h) in
        let j : l ≡ k = cc in
        let m : b ≡ a = cc in
        cc
    go false h = refl
