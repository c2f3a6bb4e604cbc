-- The size of a value.
use Rattle.std.specs.Prelude.{ℕ, ◌+◌, length}
use Rattle.value_model.specs.Model.{Val, Vals, Pairs, num, text, comp, list, table, none, more, empty, pair}

abbrev mutual
  pub size : Val → ℕ
  size (num n) = 1
  size (text s) = 1 + length s
  size (comp r) = 1 + sizes r
  size (list r) = 1 + sizes r
  size (table p) = 1 + pair_sizes p

  pub sizes : Vals → ℕ
  sizes none = 0
  sizes (more v r) = size v + sizes r

  pub pair_sizes : Pairs → ℕ
  pair_sizes empty = 0
  pair_sizes (pair k a p) = size k + size a + pair_sizes p
