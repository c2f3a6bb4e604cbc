-- What the operations do, in terms of the associates of keys, and of "is a value of this type".
use Rattle.std.specs.Prelude.{◌≡◌, ◌+◌, ◌≤◌, Bool, true, false, ◌&&◌, ◌||◌, ◌⊎◌, is_some, IfSome, Some, None, Option, ◌≢◌}
use Rattle.std.specs.declared.cmp.Ordering.{Ordering}
use Rattle.search.specs.Search.{occurs}
use Rattle.std.specs.Ordering.{is_eq, is_lt}
use Rattle.tables.specs.Entries.{Entry, entry, entries_of, by_entry}
use Rattle.tables.specs.Tables.{selected}
use Rattle.types.specs.Model.{Ty, lists, tables}
use Rattle.types.specs.Types.{ascending_keys, pairs_formed, Of}
use Rattle.value_model.specs.Model.{Val, Vals, Pairs, empty, pair, list, table}
use Rattle.value_model.specs.Order.{cmp}
use Rattle.value_model.specs.Rows.{listed, keys}
use Rattle.value_model.specs.Sizes.{size, pair_sizes}

-- whether k is one of the keys
abbrev pub has_key : Val → Pairs → Bool
has_key k p = occurs cmp k (listed (keys p))

-- k is no key of a table in order
abbrev pub NoKey : Val → Pairs → Type 0
NoKey k p = ascending_keys p ≡ true → has_key k p ≡ false

-- o is the associate of k
pub record Selection (k : Val) (p : Pairs) (o : Option Val) : Type 0 where
  pub tells : ascending_keys p ≡ true → is_some o ≡ has_key k p
  pub typed : (t u : Ty) → Of (tables t u) (table p) → IfSome o (Of u)

-- every key but k has in q the associate that it has in p
abbrev pub OthersAlike : Val → Pairs → Pairs → Type 0
OthersAlike k p q = ascending_keys p ≡ true → (j : Val) → (j ≢ k) → selected j q ≡ selected j p

-- q is the table p with a as the associate of k
pub record Association (k a : Val) (p q : Pairs) : Type 0 where
  pub here : selected k q ≡ Some a
  pub others : OthersAlike k p q
  pub keeps : (t u : Ty) → Of (tables t u) (table p) → Of t k → Of u a → size (table q) ≤ 256 → Of (tables t u) (table q)

-- q is the table p without the key k
pub record Deletion (k : Val) (p q : Pairs) : Type 0 where
  pub gone : ascending_keys p ≡ true → has_key k q ≡ false
  pub unselected : ascending_keys p ≡ true → selected k q ≡ None
  pub others : OthersAlike k p q
  pub keeps : (t u : Ty) → Of (tables t u) (table p) → Of (tables t u) (table q)

-- q is the list of the keys of p
abbrev pub KeyList : Pairs → Vals → Type 0
KeyList p q = (t u : Ty) → Of (tables t u) (table p) → Of (lists t) (list q)

-- each entry is below the next in an order
abbrev pub leads_in : (Entry → Entry → Ordering) → Entry → Pairs → Bool
leads_in by e empty = true
leads_in by e (pair l b p) = is_lt (by e (entry l b))

abbrev pub ascending_in : (Entry → Entry → Ordering) → Pairs → Bool
ascending_in by empty = true
ascending_in by (pair k a p) = leads_in by (entry k a) p && ascending_in by p

-- q has the entries of p, and that of k and a
pub record Addition (k a : Val) (p q : Pairs) : Type 0 where
  pub among : (e : Entry) → occurs by_entry e (entries_of q) ≡ (is_eq (by_entry (entry k a) e) || occurs by_entry e (entries_of p))
  pub grows : (pair_sizes q ≡ size k + size a + pair_sizes p) ⊎ (q ≡ p)
  pub strict : ascending_in by_entry p ≡ true → ascending_in by_entry q ≡ true
  pub formed : (t u : Ty) → pairs_formed p t u ≡ true → Of t k → Of u a → pairs_formed q t u ≡ true
