-- Whether a value is of a type.
use Rattle.std.specs.Prelude.{◌≡◌, ℕ, suc, Bool, true, false, not, ◌&&◌, List, [], ◌∷◌, ℤ, pos, negsuc, nat_le}
use Rattle.std.specs.Ordering.{is_lt, is_gt}
use Rattle.types.specs.Model.{Ty, Tys, number, texts, comps, lists, tables, end, also}
use Rattle.value_model.specs.Model.{Val, Vals, Pairs, num, text, comp, list, table, none, more, empty, pair}
use Rattle.value_model.specs.Order.{cmp}
use Rattle.value_model.specs.Sizes.{size}

-- from -999,999,999 to 999,999,999
abbrev pub bounded : ℤ → Bool
bounded (pos n) = nat_le n 999999999
bounded (negsuc n) = nat_le (suc n) 999999999

-- the code of a character that a text may have
abbrev pub printable : ℕ → Bool
printable c = nat_le 32 c && nat_le c 126

abbrev pub printables : List ℕ → Bool
printables [] = true
printables (c ∷ s) = printable c && printables s

-- each value is at most the next
abbrev pub leads : Val → Vals → Bool
leads v none = true
leads v (more w r) = not (is_gt (cmp v w))

abbrev pub ascending : Vals → Bool
ascending none = true
ascending (more v r) = leads v r && ascending r

-- each key is below the next
abbrev pub leads_keys : Val → Pairs → Bool
leads_keys k empty = true
leads_keys k (pair l b p) = is_lt (cmp k l)

abbrev pub ascending_keys : Pairs → Bool
ascending_keys empty = true
ascending_keys (pair k a p) = leads_keys k p && ascending_keys p

-- the test at a type of its kind, and false at any other
abbrev pub at_number : Bool → Ty → Bool
at_number b number = b
at_number b texts = false
at_number b (comps ts) = false
at_number b (lists t) = false
at_number b (tables k a) = false

abbrev pub at_text : Bool → Ty → Bool
at_text b number = false
at_text b texts = b
at_text b (comps ts) = false
at_text b (lists t) = false
at_text b (tables k a) = false

abbrev pub at_comp : (Tys → Bool) → Ty → Bool
at_comp f number = false
at_comp f texts = false
at_comp f (comps ts) = f ts
at_comp f (lists t) = false
at_comp f (tables k a) = false

abbrev pub at_list : (Ty → Bool) → Ty → Bool
at_list f number = false
at_list f texts = false
at_list f (comps ts) = false
at_list f (lists t) = f t
at_list f (tables k a) = false

abbrev pub at_table : (Ty → Ty → Bool) → Ty → Bool
at_table f number = false
at_table f texts = false
at_table f (comps ts) = false
at_table f (lists t) = false
at_table f (tables k a) = f k a

abbrev pub at_end : Tys → Bool
at_end end = true
at_end (also t ts) = false

abbrev pub at_also : (Ty → Tys → Bool) → Tys → Bool
at_also f end = false
at_also f (also t ts) = f t ts

-- every number bounded, every character printable, every part of its type, every list in order, every table in order of key,
-- no key twice
abbrev mutual
  pub formed : Val → Ty → Bool
  formed (num n) t = at_number (bounded n) t
  formed (text s) t = at_text (printables s) t
  formed (comp r) t = at_comp (each_formed r) t
  formed (list r) t = at_list (λ u. ascending r && all_formed r u) t
  formed (table p) t = at_table (λ k a. ascending_keys p && pairs_formed p k a) t

  pub each_formed : Vals → Tys → Bool
  each_formed none ts = at_end ts
  each_formed (more v r) ts = at_also (λ t us. formed v t && each_formed r us) ts

  pub all_formed : Vals → Ty → Bool
  all_formed none t = true
  all_formed (more v r) t = formed v t && all_formed r t

  pub pairs_formed : Pairs → Ty → Ty → Bool
  pairs_formed empty k a = true
  pairs_formed (pair l b p) k a = formed l k && (formed b a && pairs_formed p k a)

-- v is a value of type t: so formed, and of size 256 at the most
abbrev pub of : Ty → Val → Bool
of t v = nat_le (size v) 256 && formed v t

abbrev pub Of : Ty → Val → Type 0
Of t v = of t v ≡ true
