-- A value of each kind is formed only for a type of its kind.
use Rattle.std.proofs.Common.{◌≡◌, ℕ, true, List, ℤ, refl}
use Rattle.std.proofs.lemmas.Bool.{and_parts, false≢true}
use Rattle.types.specs.Model.{Ty, Tys, number, texts, comps, lists, tables}
use Rattle.types.specs.Types.{bounded, printables, ascending, ascending_keys, formed, each_formed, all_formed, pairs_formed}
use Rattle.value_model.specs.Model.{Vals, Pairs, num, text, comp, list, table}

pub number_kind : (z : ℤ) (t : Ty) → formed (num z) t ≡ true → (t ≡ number) × (bounded z ≡ true)
number_kind z number h = (refl, h)
number_kind z texts h = absurd (false≢true h)
number_kind z (comps ts) h = absurd (false≢true h)
number_kind z (lists t) h = absurd (false≢true h)
number_kind z (tables k a) h = absurd (false≢true h)

pub text_kind : (s : List ℕ) (t : Ty) → formed (text s) t ≡ true → (t ≡ texts) × (printables s ≡ true)
text_kind s number h = absurd (false≢true h)
text_kind s texts h = (refl, h)
text_kind s (comps ts) h = absurd (false≢true h)
text_kind s (lists t) h = absurd (false≢true h)
text_kind s (tables k a) h = absurd (false≢true h)

pub comp_kind : (r : Vals) (t : Ty) → formed (comp r) t ≡ true → (ts : Tys) × (t ≡ comps ts) × (each_formed r ts ≡ true)
comp_kind r number h = absurd (false≢true h)
comp_kind r texts h = absurd (false≢true h)
comp_kind r (comps ts) h = (ts, refl, h)
comp_kind r (lists t) h = absurd (false≢true h)
comp_kind r (tables k a) h = absurd (false≢true h)

pub list_kind : (r : Vals) (t : Ty) → formed (list r) t ≡ true → (u : Ty) × (t ≡ lists u) × (ascending r ≡ true) × (all_formed r u ≡ true)
list_kind r number h = absurd (false≢true h)
list_kind r texts h = absurd (false≢true h)
list_kind r (comps ts) h = absurd (false≢true h)
list_kind r (lists u) h = let p = and_parts (ascending r) (all_formed r u) h in (u, refl, p.0, p.1)
list_kind r (tables k a) h = absurd (false≢true h)

pub table_kind : (p : Pairs) (t : Ty) → formed (table p) t ≡ true → (k : Ty) × (a : Ty) × (t ≡ tables k a) × (ascending_keys p ≡ true) × (pairs_formed p k a ≡ true)
table_kind p number h = absurd (false≢true h)
table_kind p texts h = absurd (false≢true h)
table_kind p (comps ts) h = absurd (false≢true h)
table_kind p (lists t) h = absurd (false≢true h)
table_kind p (tables k a) h = let q = and_parts (ascending_keys p) (pairs_formed p k a) h in (k, a, refl, q.0, q.1)
