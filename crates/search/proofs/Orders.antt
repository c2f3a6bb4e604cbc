-- What follows from a total order.
use Rattle.std.proofs.Common.{◌≡◌, true, false, not, Ordering, Less, Equal, Greater, refl, ap, ◌∙◌, arith}
use Rattle.search.specs.Search.{TotalOrder}
use Rattle.std.specs.Ordering.{is_lt, is_eq, is_gt, ordering_reverse}

pub is_less : (r : Ordering) → is_lt r ≡ true → r ≡ Less
is_less Less e = refl
is_less Equal e = absurd cc
is_less Greater e = absurd cc

pub is_equal : (r : Ordering) → is_eq r ≡ true → r ≡ Equal
is_equal Less e = absurd cc
is_equal Equal e = refl
is_equal Greater e = absurd cc

pub less_at_most : (r : Ordering) → r ≡ Less → not (is_gt r) ≡ true
less_at_most r e = ap (λ r. not (is_gt r)) e

module _ {K : Type 0} (cmp : K → K → Ordering) (o : TotalOrder cmp) where
  pub greater : (x y : K) → cmp x y ≡ Less → cmp y x ≡ Greater
  greater x y e = o.flip y x ∙ ap ordering_reverse e

  pub less : (x y : K) → cmp x y ≡ Greater → cmp y x ≡ Less
  less x y e = o.flip y x ∙ ap ordering_reverse e

  -- x is at most y, and y below z
  pub at_most_less : (x y z : K) → not (is_gt (cmp x y)) ≡ true → cmp y z ≡ Less → cmp x z ≡ Less
  at_most_less x y z h k = let t = o.trans x y z in let a = o.alike x y z in grind arith

  -- x is below y, and y at most z
  pub less_at_most_less : (x y z : K) → cmp x y ≡ Less → not (is_gt (cmp y z)) ≡ true → cmp x z ≡ Less
  less_at_most_less x y z h k = let t = o.trans x y z in let a = o.alike y z x in let f = o.flip x z in let g = o.flip y x in grind arith

  pub at_most_trans : (x y z : K) → not (is_gt (cmp x y)) ≡ true → not (is_gt (cmp y z)) ≡ true → not (is_gt (cmp x z)) ≡ true
  at_most_trans x y z h k = let t = less_at_most_less x y z in let a = o.alike x y z in grind arith

  -- what is not below is at least
  pub at_least : (x y : K) → is_lt (cmp x y) ≡ false → not (is_gt (cmp y x)) ≡ true
  at_least x y h = let f = o.flip y x in grind arith
