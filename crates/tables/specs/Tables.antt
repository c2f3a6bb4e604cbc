-- Operations on tables. The place of an entry in an order is after the entries at the front that are below it.
use Rattle.std.specs.Prelude.{cond, Some, None, Option}
use Rattle.std.specs.declared.cmp.Ordering.{Ordering}
use Rattle.search.specs.Search.{stands}
use Rattle.std.specs.Ordering.{is_eq, is_lt}
use Rattle.tables.specs.Entries.{Entry, entry, entries_of, by_key, by_entry, keyed}
use Rattle.value_model.specs.Model.{Val, Pairs, empty, pair}
use Rattle.value_model.specs.Order.{cmp}

-- the associate of k; nothing if k does not stand at its place
abbrev pub selected : Val → Pairs → Option Val
selected k empty = None
selected k (pair l b p) = cond (is_lt (cmp l k)) (selected k p) (cond (is_eq (cmp l k)) (Some b) None)

-- the entries before the place of e as they are, and those from there on changed by f
abbrev pub changed : (Entry → Entry → Ordering) → Entry → (Pairs → Pairs) → Pairs → Pairs
changed by e f empty = f empty
changed by e f (pair l b p) = cond (is_lt (by (entry l b) e)) (pair l b (changed by e f p)) (f (pair l b p))

-- without the first entry, if it is equal to e in the order
abbrev pub past : (Entry → Entry → Ordering) → Entry → Pairs → Pairs
past by e empty = empty
past by e (pair l b p) = cond (is_eq (by (entry l b) e)) p (pair l b p)

-- the table in which a is the associate of k
abbrev pub associated : Val → Val → Pairs → Pairs
associated k a p = changed by_key (keyed k) (λ r. pair k a (past by_key (keyed k) r)) p

-- the table without the entry of k; nothing if k does not stand at its place
abbrev pub deleted : Val → Pairs → Option Pairs
deleted k p = cond (stands by_key (keyed k) (entries_of p)) (Some (changed by_key (keyed k) (past by_key (keyed k)) p)) None

-- with the entry of k and a in front, unless it is there
abbrev pub entered : Val → Val → Pairs → Pairs
entered k a empty = pair k a empty
entered k a (pair l b p) = cond (is_eq (by_entry (entry l b) (entry k a))) (pair l b p) (pair k a (pair l b p))

-- the entries, and that of k and a, once
abbrev pub added : Val → Val → Pairs → Pairs
added k a p = changed by_entry (entry k a) (entered k a) p
