-- The entries of tables, and their two orders.
use Rattle.std.specs.Prelude.{List, [], ◌∷◌}
use Rattle.std.specs.declared.cmp.Ordering.{Ordering}
use Rattle.std.specs.Ordering.{ordering_then}
use Rattle.value_model.specs.Model.{Val, Pairs, empty, pair}
use Rattle.value_model.specs.Order.{cmp}
use Rattle.values.specs.declared.value.Entry as code
use Rattle.values.specs.Means.{val}

-- a key with its associate
pub data Entry : Type 0 where
  entry : Val → Val → Entry

-- what an entry of the code means
abbrev pub entry_of : code.Entry → Entry
entry_of e = entry (val e.key) (val e.associate)

abbrev pub entries_of : Pairs → List Entry
entries_of empty = []
entries_of (pair k a p) = entry k a ∷ entries_of p

-- the order by key: the order of a table
abbrev pub by_key : Entry → Entry → Ordering
by_key (entry k a) (entry l b) = cmp k l

-- an entry of the key k, to compare by key: its associate stands for any
abbrev pub keyed : Val → Entry
keyed k = entry k k

-- the order by key and then by associate: the order of entries where one key may have several associates
abbrev pub by_entry : Entry → Entry → Ordering
by_entry (entry k a) (entry l b) = ordering_then (cmp k l) (cmp a b)
