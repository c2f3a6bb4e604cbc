-- The laws of the operations.
use Rattle.std.proofs.Common.{◌≡◌, ◌+◌, ◌≤◌, Bool, true, false, cond, ◌&&◌, ◌||◌, leb, ◌⊎◌, is_some, IfSome, Some, None, Option, Ordering, Less, Equal, Greater, sym, refl, ap, ◌∙◌, subst, inl, inr, arith}
use Rattle.types.proofs.Of.{of_list, of_formed}
use Rattle.search.proofs.Orders.{greater, less, is_less, is_equal, less_at_most}
use Rattle.search.specs.Search.{occurs}
use Rattle.std.proofs.lemmas.Bool.{and_parts, and_from, le-leb, leb-true}
use Rattle.std.specs.Ordering.{is_eq, is_lt}
use Rattle.tables.proofs.Orders.{by_key_order, by_entry_order, Fitting, changed_ascending, past_fitting, put_fitting, ascending_by_key, keyed_alike, entered_past}
use Rattle.tables.proofs.Places.{changed_related, replaced, without}
use Rattle.tables.specs.Entries.{Entry, entry, entries_of, by_key, by_entry, keyed}
use Rattle.tables.specs.Laws.{has_key, NoKey, OthersAlike, Selection, Association, Deletion, KeyList, ascending_in, Addition}
use Rattle.tables.specs.Tables.{selected, changed, past, associated, entered, added}
use Rattle.types.specs.Model.{Ty, tables}
use Rattle.types.specs.Types.{leads, ascending, leads_keys, ascending_keys, formed, all_formed, pairs_formed, Of}
use Rattle.value_model.proofs.Ordered.{cmp_order, cmp_same, cmp_equal}
use Rattle.value_model.specs.Model.{Val, Vals, Pairs, empty, pair, table}
use Rattle.value_model.specs.Order.{cmp}
use Rattle.value_model.specs.Rows.{keys}
use Rattle.value_model.specs.Sizes.{size, sizes, pair_sizes}

-- ---- a table of a type

pub of_table : (t u : Ty) (p : Pairs) → ascending_keys p ≡ true → pairs_formed p t u ≡ true → size (table p) ≤ 256 → Of (tables t u) (table p)
of_table t u p a f l = and_from (leb (size (table p)) 256) (ascending_keys p && pairs_formed p t u) (le-leb (size (table p)) 256 l) (and_from (ascending_keys p) (pairs_formed p t u) a f)

pub table_of : (t u : Ty) (p : Pairs) → Of (tables t u) (table p) → (size (table p) ≤ 256) × (ascending_keys p ≡ true) × (pairs_formed p t u ≡ true)
table_of t u p h =
    let i = and_parts (leb (size (table p)) 256) (ascending_keys p && pairs_formed p t u) h in
    let j = and_parts (ascending_keys p) (pairs_formed p t u) i.1 in
    (leb-true (size (table p)) 256 i.0, j.0, j.1)

formed_parts : (t u : Ty) (l b : Val) (p : Pairs) → pairs_formed (pair l b p) t u ≡ true → (formed l t ≡ true) × (formed b u ≡ true) × (pairs_formed p t u ≡ true)
formed_parts t u l b p h =
    let i = and_parts (formed l t) (formed b u && pairs_formed p t u) h in
    let j = and_parts (formed b u) (pairs_formed p t u) i.1 in
    (i.0, j.0, j.1)

formed_from : (t u : Ty) (l b : Val) (p : Pairs) → formed l t ≡ true → formed b u ≡ true → pairs_formed p t u ≡ true → pairs_formed (pair l b p) t u ≡ true
formed_from t u l b p f g h = and_from (formed l t) (formed b u && pairs_formed p t u) f (and_from (formed b u) (pairs_formed p t u) g h)

-- ---- look-ups

-- the associate of the first entry with the key k, wherever it is
abbrev looked : Val → Pairs → Option Val
looked k empty = None
looked k (pair l b p) = cond (is_eq (cmp l k)) (Some b) (looked k p)

looked_above : (k x : Val) (p : Pairs) → cmp k x ≡ Less → leads_keys x p ≡ true → ascending_keys p ≡ true → looked k p ≡ None
looked_above k x empty h l a = refl
looked_above k x (pair m c p) h l a =
    let i = and_parts (leads_keys m p) (ascending_keys p) a in
    let g = cmp_order.trans k x m h (is_less (cmp x m) l) in
    ap (λ r. cond (is_eq r) (Some c) (looked k p)) (greater cmp cmp_order k m g) ∙ looked_above k m p g i.0 i.1

selected_looked : (k : Val) (p : Pairs) → ascending_keys p ≡ true → selected k p ≡ looked k p
selected_looked k empty a = refl
selected_looked k (pair l b p) a =
    let i = and_parts (leads_keys l p) (ascending_keys p) a in
    go (cmp l k) refl i.0 i.1 (selected_looked k p i.1)
  where
    go : (r : Ordering) → cmp l k ≡ r → leads_keys l p ≡ true → ascending_keys p ≡ true → selected k p ≡ looked k p → cond (is_lt r) (selected k p) (cond (is_eq r) (Some b) None) ≡ cond (is_eq r) (Some b) (looked k p)
    go Less h i j m = m
    go Equal h i j m = refl
    go Greater h i j m = sym (looked_above k l p (less cmp cmp_order l k h) i j)

looked_tells : (k : Val) (p : Pairs) → is_some (looked k p) ≡ has_key k p
looked_tells k empty = refl
looked_tells k (pair l b p) = go (is_eq (cmp l k)) (looked_tells k p)
  where
    go : (t : Bool) → is_some (looked k p) ≡ has_key k p → is_some (cond t (Some b) (looked k p)) ≡ (t || has_key k p)
    go true i = refl
    go false i = i

selected_tells : (k : Val) (p : Pairs) → ascending_keys p ≡ true → is_some (selected k p) ≡ has_key k p
selected_tells k p a = ap is_some (selected_looked k p a) ∙ looked_tells k p

selected_of : (k : Val) (t u : Ty) (p : Pairs) → pair_sizes p ≤ 256 → pairs_formed p t u ≡ true → IfSome (selected k p) (Of u)
selected_of k t u empty l f = tt
selected_of k t u (pair m c p) l f = go (is_lt (cmp m k)) (is_eq (cmp m k)) (selected_of k t u p (omega arith) (formed_parts t u m c p f).2)
  where
    go : (s z : Bool) → IfSome (selected k p) (Of u) → IfSome (cond s (selected k p) (cond z (Some c) None)) (Of u)
    go true z i = i
    go false true i = and_from (leb (size c) 256) (formed c u) (le-leb (size c) 256 (omega arith)) (formed_parts t u m c p f).1
    go false false i = tt

pub selection : (k : Val) (p : Pairs) (o : Option Val) → o ≡ selected k p → Selection k p o
selection k p o e = subst (Selection k p) (sym e) (record {
  tells = selected_tells k p;
  typed = λ t u h. let i = table_of t u p h in let l = i.0 in selected_of k t u p (omega arith) i.2;
})

pub no_key : (k : Val) (p : Pairs) → selected k p ≡ None → NoKey k p
no_key k p e a = sym (selected_tells k p a) ∙ ap is_some e

-- ---- the first entry left out

past_formed : (by : Entry → Entry → Ordering) (e : Entry) (t u : Ty) (r : Pairs) → pairs_formed r t u ≡ true → pairs_formed (past by e r) t u ≡ true
past_formed by e t u empty f = refl
past_formed by e t u (pair l b p) f = elim (is_eq (by (entry l b) e)) as (λ s. pairs_formed (cond s p (pair l b p)) t u ≡ true) [ true ↦ (formed_parts t u l b p f).2 | false ↦ f ]

past_sizes : (by : Entry → Entry → Ordering) (e : Entry) (r : Pairs) → pair_sizes (past by e r) ≤ pair_sizes r
past_sizes by e empty = omega arith
past_sizes by e (pair l b p) = elim (is_eq (by (entry l b) e)) as (λ s. pair_sizes (cond s p (pair l b p)) ≤ pair_sizes (pair l b p)) [ true ↦ omega arith | false ↦ omega arith ]

-- j is another key than k
other : (k j : Val) → (j ≡ k → ⊥) → is_eq (cmp k j) ≡ false
other k j h = go (is_eq (cmp k j)) refl
  where
    go : (t : Bool) → is_eq (cmp k j) ≡ t → t ≡ false
    go true e = absurd (h (sym (cmp_same k j (is_equal (cmp k j) e))))
    go false e = refl

past_looked : (k j : Val) → is_eq (cmp k j) ≡ false → (r : Pairs) → looked j (past by_key (keyed k) r) ≡ looked j r
past_looked k j h empty = refl
past_looked k j h (pair l b p) = go (is_eq (cmp l k)) refl
  where
    go : (t : Bool) → is_eq (cmp l k) ≡ t → looked j (cond t p (pair l b p)) ≡ looked j (pair l b p)
    go true e = ap (λ s. cond s (Some b) (looked j p)) (sym (ap is_eq (cmp_order.alike l k j (is_equal (cmp l k) e)) ∙ h))
    go false e = refl

-- ---- a change at the place of a key

module _ (k : Val) (f : Pairs → Pairs) (fits : Fitting by_key by_key_order (keyed k) f) where
  changed_keys : (p : Pairs) → ascending_keys p ≡ true → ascending_keys (changed by_key (keyed k) f p) ≡ true
  changed_keys p a = sym (ascending_by_key (changed by_key (keyed k) f p)) ∙ changed_ascending by_key by_key_order (keyed k) f fits p (ascending_by_key p ∙ a)

  changed_others : ((j : Val) → is_eq (cmp k j) ≡ false → (r : Pairs) → looked j (f r) ≡ looked j r) → (p : Pairs) → OthersAlike k p (changed by_key (keyed k) f p)
  changed_others h p a j n =
      let e : looked j (changed by_key (keyed k) f p) ≡ looked j p =
      changed_related by_key (keyed k) f (λ p q. looked j q ≡ looked j p) (h j (other k j n)) (λ l b p q. ap (cond (is_eq (cmp l j)) (Some b))) p
      in
      selected_looked j (changed by_key (keyed k) f p) (changed_keys p a) ∙ e ∙ sym (selected_looked j p a)

changed_formed : (by : Entry → Entry → Ordering) (e : Entry) (f : Pairs → Pairs) (t u : Ty) → ((r : Pairs) → pairs_formed r t u ≡ true → pairs_formed (f r) t u ≡ true) → (p : Pairs) → pairs_formed p t u ≡ true → pairs_formed (changed by e f p) t u ≡ true
changed_formed by e f t u h p =
    changed_related by e f (λ p q. pairs_formed p t u ≡ true → pairs_formed q t u ≡ true) h (λ l b p q i j. let m = formed_parts t u l b p j in formed_from t u l b q m.0 m.1 (i m.2)) p

-- ---- put

selected_first : (k a : Val) (p : Pairs) → selected k (pair k a p) ≡ Some a
selected_first k a p = ap (λ r. cond (is_lt r) (selected k p) (cond (is_eq r) (Some a) None)) (cmp_equal k k refl)

associated_here : (k a : Val) (p : Pairs) → selected k (associated k a p) ≡ Some a
associated_here k a empty = selected_first k a empty
associated_here k a (pair l b p) = go (is_lt (cmp l k)) refl (associated_here k a p)
  where
    go : (t : Bool) → is_lt (cmp l k) ≡ t → selected k (associated k a p) ≡ Some a → selected k (cond t (pair l b (associated k a p)) (pair k a (past by_key (keyed k) (pair l b p)))) ≡ Some a
    go true h i = ap (λ s. cond s (selected k (associated k a p)) (cond (is_eq (cmp l k)) (Some b) None)) h ∙ i
    go false h i = selected_first k a (past by_key (keyed k) (pair l b p))

replaced_fits : (k a : Val) → Fitting by_key by_key_order (keyed k) (replaced k a)
replaced_fits k a = put_fitting by_key by_key_order (keyed k) k a (keyed_alike k a)

replaced_looked : (k a j : Val) → is_eq (cmp k j) ≡ false → (r : Pairs) → looked j (replaced k a r) ≡ looked j r
replaced_looked k a j n r = ap (λ s. cond s (Some a) (looked j (past by_key (keyed k) r))) n ∙ past_looked k j n r

pub association : (k a : Val) (p q : Pairs) → q ≡ associated k a p → Association k a p q
association k a p q e = subst (Association k a p) (sym e) (record {
  here = associated_here k a p;
  others = changed_others k (replaced k a) (replaced_fits k a) (replaced_looked k a) p;
  keeps = λ t u h i j l.
      let m = table_of t u p h in
      let g = changed_formed by_key (keyed k) (replaced k a) t u (λ r f. formed_from t u k a (past by_key (keyed k) r) (of_formed t k i) (of_formed u a j) (past_formed by_key (keyed k) t u r f)) p m.2 in
      of_table t u (associated k a p) (changed_keys k (replaced k a) (replaced_fits k a) p m.1) g l;
})

-- ---- delete

without_keys : (k : Val) (p : Pairs) → ascending_keys p ≡ true → ascending_keys (without k p) ≡ true
without_keys k p = changed_keys k (past by_key (keyed k)) (past_fitting by_key by_key_order (keyed k)) p

unselected : (k l : Val) (p : Pairs) → cmp l k ≡ Equal → leads_keys l p ≡ true → selected k p ≡ None
unselected k l empty e h = refl
unselected k l (pair m c p) e h =
    let g = greater cmp cmp_order k m (sym (cmp_order.alike l k m e) ∙ is_less (cmp l m) h) in
    ap (λ r. cond (is_lt r) (selected k p) (cond (is_eq r) (Some c) None)) g

without_none : (k : Val) (p : Pairs) → ascending_keys p ≡ true → selected k (without k p) ≡ None
without_none k empty a = refl
without_none k (pair l b p) a =
    let i = and_parts (leads_keys l p) (ascending_keys p) a in
    go (cmp l k) refl i.0 (without_none k p i.1)
  where
    go : (r : Ordering) → cmp l k ≡ r → leads_keys l p ≡ true → selected k (without k p) ≡ None → selected k (cond (is_lt r) (pair l b (without k p)) (cond (is_eq r) p (pair l b p))) ≡ None
    go Less e i m = ap (λ r. cond (is_lt r) (selected k (without k p)) (cond (is_eq r) (Some b) None)) e ∙ m
    go Equal e i m = unselected k l p e i
    go Greater e i m = ap (λ r. cond (is_lt r) (selected k p) (cond (is_eq r) (Some b) None)) e

without_sizes : (k : Val) (p : Pairs) → pair_sizes (without k p) ≤ pair_sizes p
without_sizes k p = changed_related by_key (keyed k) (past by_key (keyed k)) (λ p q. pair_sizes q ≤ pair_sizes p) (past_sizes by_key (keyed k)) (λ l b p q h. omega arith) p

pub deletion : (k : Val) (p q : Pairs) → q ≡ without k p → Deletion k p q
deletion k p q e = subst (Deletion k p) (sym e) (record {
  gone = λ a. no_key k (without k p) (without_none k p a) (without_keys k p a);
  unselected = without_none k p;
  others = changed_others k (past by_key (keyed k)) (past_fitting by_key by_key_order (keyed k)) (past_looked k) p;
  keeps = λ t u h.
      let m = table_of t u p h in
      let s = without_sizes k p in
      let z = m.0 in
      of_table t u (without k p) (without_keys k p m.1) (changed_formed by_key (keyed k) (past by_key (keyed k)) t u (past_formed by_key (keyed k) t u) p m.2) (omega arith);
})

-- ---- the keys

keys_ascending : (p : Pairs) → ascending_keys p ≡ true → ascending (keys p) ≡ true
keys_ascending empty a = refl
keys_ascending (pair k a p) h =
    let i = and_parts (leads_keys k p) (ascending_keys p) h in
    and_from (leads k (keys p)) (ascending (keys p)) (at_most p i.0) (keys_ascending p i.1)
  where
    at_most : (p : Pairs) → leads_keys k p ≡ true → leads k (keys p) ≡ true
    at_most empty h = refl
    at_most (pair l b p) h = less_at_most (cmp k l) (is_less (cmp k l) h)

keys_formed : (t u : Ty) (p : Pairs) → pairs_formed p t u ≡ true → all_formed (keys p) t ≡ true
keys_formed t u empty f = refl
keys_formed t u (pair k a p) f = let i = formed_parts t u k a p f in and_from (formed k t) (all_formed (keys p) t) i.0 (keys_formed t u p i.2)

keys_sizes : (p : Pairs) → sizes (keys p) ≤ pair_sizes p
keys_sizes empty = omega arith
keys_sizes (pair k a p) = let h = keys_sizes p in omega arith

pub key_list : (p : Pairs) (q : Vals) → q ≡ keys p → KeyList p q
key_list p q e = subst (KeyList p) (sym e) (λ t u h.
    let m = table_of t u p h in
    let s = keys_sizes p in
    let z = m.0 in
    of_list t (keys p) (keys_ascending p m.1) (keys_formed t u p m.2) (omega arith))

-- ---- add

module _ (k a : Val) where
  entered_among : (e : Entry) (r : Pairs) → occurs by_entry e (entries_of (entered k a r)) ≡ (is_eq (by_entry (entry k a) e) || occurs by_entry e (entries_of r))
  entered_among e empty = refl
  entered_among e (pair l b p) = go (is_eq (by_entry (entry l b) (entry k a))) refl
    where
      twice : (s t x : Bool) → s ≡ t → (s || x) ≡ (t || (s || x))
      twice s true x h = ap (λ z. z || x) h
      twice s false x h = refl

      go : (t : Bool) → is_eq (by_entry (entry l b) (entry k a)) ≡ t → occurs by_entry e (entries_of (cond t (pair l b p) (pair k a (pair l b p)))) ≡ (is_eq (by_entry (entry k a) e) || occurs by_entry e (entries_of (pair l b p)))
      go true h = twice (is_eq (by_entry (entry l b) e)) (is_eq (by_entry (entry k a) e)) (occurs by_entry e (entries_of p)) (ap is_eq (by_entry_order.alike (entry l b) (entry k a) e (is_equal (by_entry (entry l b) (entry k a)) h)))
      go false h = refl

  swapped : (s t x y : Bool) → y ≡ (t || x) → (s || y) ≡ (t || (s || x))
  swapped true true x y h = refl
  swapped true false x y h = refl
  swapped false t x y h = h

  added_among : (e : Entry) (p : Pairs) → occurs by_entry e (entries_of (added k a p)) ≡ (is_eq (by_entry (entry k a) e) || occurs by_entry e (entries_of p))
  added_among e p =
      changed_related by_entry (entry k a) (entered k a) (λ p q. occurs by_entry e (entries_of q) ≡ (is_eq (by_entry (entry k a) e) || occurs by_entry e (entries_of p))) (entered_among e)
      (λ l b p q h. swapped (is_eq (by_entry (entry l b) e)) (is_eq (by_entry (entry k a) e)) (occurs by_entry e (entries_of p)) (occurs by_entry e (entries_of q)) h) p

  -- q is larger than p by the entry of k and a, or is p
  abbrev Larger : Pairs → Pairs → Type 0
  Larger p q = (pair_sizes q ≡ size k + size a + pair_sizes p) ⊎ (q ≡ p)

  entered_larger : (r : Pairs) → Larger r (entered k a r)
  entered_larger empty = inl refl
  entered_larger (pair l b p) = elim (is_eq (by_entry (entry l b) (entry k a))) as (λ t. Larger (pair l b p) (cond t (pair l b p) (pair k a (pair l b p)))) [ true ↦ inr refl | false ↦ inl refl ]

  larger_more : (l b : Val) (p q : Pairs) → Larger p q → Larger (pair l b p) (pair l b q)
  larger_more l b p q (inl h) = inl (omega arith)
  larger_more l b p q (inr h) = inr (ap (pair l b) h)

  entered_formed : (t u : Ty) → formed k t ≡ true → formed a u ≡ true → (r : Pairs) → pairs_formed r t u ≡ true → pairs_formed (entered k a r) t u ≡ true
  entered_formed t u f g empty h = formed_from t u k a empty f g h
  entered_formed t u f g (pair l b p) h = elim (is_eq (by_entry (entry l b) (entry k a))) as (λ s. pairs_formed (cond s (pair l b p) (pair k a (pair l b p))) t u ≡ true) [ true ↦ h | false ↦ formed_from t u k a (pair l b p) f g h ]

  pub added_formed : (t u : Ty) → formed k t ≡ true → formed a u ≡ true → (p : Pairs) → pairs_formed p t u ≡ true → pairs_formed (added k a p) t u ≡ true
  added_formed t u f g = changed_formed by_entry (entry k a) (entered k a) t u (entered_formed t u f g)

  pub added_ascending : (p : Pairs) → ascending_in by_entry p ≡ true → ascending_in by_entry (added k a p) ≡ true
  added_ascending p h =
      ap (ascending_in by_entry) (λ i. changed by_entry (entry k a) (λ r. entered_past k a r i) p) ∙ changed_ascending by_entry by_entry_order (entry k a) _ (put_fitting by_entry by_entry_order (entry k a) k a (λ x. refl)) p h

  pub addition : (p q : Pairs) → q ≡ added k a p → Addition k a p q
  addition p q e = subst (Addition k a p) (sym e) (record {
    among = λ e. added_among e p;
    grows = changed_related by_entry (entry k a) (entered k a) Larger entered_larger larger_more p;
    strict = added_ascending p;
    formed = λ t u h i j. added_formed t u (of_formed t k i) (of_formed u a j) p h;
  })
