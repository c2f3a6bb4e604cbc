-- The order of values: numbers from the lowest up, texts by their codes, rows by the first part that differs, in a table the
-- key before its associate; what begins a longer row comes before it. Values of different kinds, which no row has side by
-- side, go by their kind.
use Rattle.std.specs.Prelude.{◌≡◌, ℕ, List, ℤ}
use Rattle.std.specs.declared.cmp.Ordering.TheVariants.{Less, Equal, Greater}
use Rattle.std.specs.declared.cmp.Ordering.{Ordering}
use Rattle.search.specs.Search.{TotalOrder}
use Rattle.std.specs.Cmp.Lexicographic.{slice_cmp}
use Rattle.std.specs.Ordering.{ordering_then, int_cmp, nat_cmp}
use Rattle.value_model.specs.Model.{Val, Vals, Pairs, num, text, comp, list, table, none, more, empty, pair}

-- how a value of one kind compares with any value, by how it compares with one of its own kind
abbrev pub by_num : (ℤ → Ordering) → Val → Ordering
by_num f (num n) = f n
by_num f (text s) = Less
by_num f (comp r) = Less
by_num f (list r) = Less
by_num f (table p) = Less

abbrev pub by_text : (List ℕ → Ordering) → Val → Ordering
by_text f (num n) = Greater
by_text f (text s) = f s
by_text f (comp r) = Less
by_text f (list r) = Less
by_text f (table p) = Less

abbrev pub by_comp : (Vals → Ordering) → Val → Ordering
by_comp f (num n) = Greater
by_comp f (text s) = Greater
by_comp f (comp r) = f r
by_comp f (list r) = Less
by_comp f (table p) = Less

abbrev pub by_list : (Vals → Ordering) → Val → Ordering
by_list f (num n) = Greater
by_list f (text s) = Greater
by_list f (comp r) = Greater
by_list f (list r) = f r
by_list f (table p) = Less

abbrev pub by_table : (Pairs → Ordering) → Val → Ordering
by_table f (num n) = Greater
by_table f (text s) = Greater
by_table f (comp r) = Greater
by_table f (list r) = Greater
by_table f (table p) = f p

abbrev mutual
  pub cmp : Val → Val → Ordering
  cmp (num m) w = by_num (int_cmp m) w
  cmp (text s) w = by_text (slice_cmp nat_cmp s) w
  cmp (comp r) w = by_comp (cmps r) w
  cmp (list r) w = by_list (cmps r) w
  cmp (table p) w = by_table (cmp_pairs p) w

  pub cmps : Vals → Vals → Ordering
  cmps none none = Equal
  cmps none (more w q) = Less
  cmps (more v r) none = Greater
  cmps (more v r) (more w q) = ordering_then (cmp v w) (cmps r q)

  pub cmp_pairs : Pairs → Pairs → Ordering
  cmp_pairs empty empty = Equal
  cmp_pairs empty (pair k a q) = Less
  cmp_pairs (pair k a p) empty = Greater
  cmp_pairs (pair k a p) (pair l b q) = ordering_then (cmp k l) (ordering_then (cmp a b) (cmp_pairs p q))

-- the order is total and transitive, and only the same values are equal in it
pub record Lawful : Type 0 where
  pub order : TotalOrder cmp
  pub same : (v w : Val) → cmp v w ≡ Equal → v ≡ w
