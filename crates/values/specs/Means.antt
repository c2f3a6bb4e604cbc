-- What a value of the code means.
use Rattle.std.specs.Prelude.{List, [], ◌∷◌, map, vec_items}
use Rattle.std.specs.Rc.{rc_value}
use Rattle.values.specs.declared.value.Entry.{Entry}
use Rattle.values.specs.declared.value.Value.{Value, Number, Text, Compound', List', Table', Row_of-Value, end_of-Value, more_of-Value, Row_of-Entry, end_of-Entry, more_of-Entry}
use Rattle.value_model.specs.Model.{Val, Vals, Pairs, num, text, comp, list, table, none, more, empty, pair}
use Rattle.value_model.specs.Rows.{row_of}

abbrev mutual
  pub val : Value → Val
  val (Number n) = num n
  val (Text s) = text (vec_items (rc_value s))
  val (Compound' c s r) = comp (row_vals r)
  val (List' c s r) = list (row_vals r)
  val (Table' c s p) = table (row_pairs p)

  -- the rows inside a value: they mean what `vals` and `pairs` say of their items, by `val_compound`, `val_list` and `val_table` of
  -- proofs/Shared
  pub row_vals : {n : _} → Row_of-Value n → Vals
  row_vals end_of-Value = none
  row_vals (more_of-Value v r) = more (val v) (row_vals r)

  pub row_pairs : {n : _} → Row_of-Entry n → Pairs
  row_pairs end_of-Entry = empty
  row_pairs (more_of-Entry k a p) = pair (val k) (val a) (row_pairs p)

-- a row of values, and a row of entries
abbrev pub vals : List Value → Vals
vals vs = row_of (map val vs)

abbrev pub pairs : List Entry → Pairs
pairs [] = empty
pairs (e ∷ es) = pair (val e.key) (val e.associate) (pairs es)
