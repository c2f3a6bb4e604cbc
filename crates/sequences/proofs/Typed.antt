-- The items of a value of a type: their types, and how many there are.
use Rattle.std.proofs.Common.{◌≡◌, ℕ, ◌-◌, ◌^◌, ◌≤◌, min, true, ◌&&◌, leb, List, [], ◌∷◌, map, length, pos, Some, IfSome, Option, sym, refl, subst, arith}
use Rattle.sequences.specs.Laws.{item_type, AllOf, ItemsTyped, Counted}
use Rattle.sequences.specs.Sequences.{letter, associates, items_of, counted}
use Rattle.std.proofs.lemmas.List.{length-map}
use Rattle.std.proofs.lemmas.Bool.{and_parts, and_from, le-leb, leb-true}
use Rattle.std.specs.List.{AllByRecursion}
use Rattle.types.proofs.ByKind.{number_kind, text_kind, comp_kind, list_kind, table_kind}
use Rattle.types.specs.Model.{Ty, number, texts}
use Rattle.types.specs.Types.{printable, printables, formed, all_formed, pairs_formed, Of}
use Rattle.value_model.specs.Model.{Val, Vals, Pairs, num, text, comp, list, table, none, more, empty, pair}
use Rattle.value_model.specs.Rows.{listed}
use Rattle.value_model.specs.Sizes.{size, sizes, pair_sizes}

-- ---- each item is of its type

of_parts : (t : Ty) (v : Val) → Of t v → (size v ≤ 256) × (formed v t ≡ true)
of_parts t v h = let i = and_parts (leb (size v) 256) (formed v t) h in (leb-true (size v) 256 i.0, i.1)

of_from : (t : Ty) (v : Val) → size v ≤ 256 → formed v t ≡ true → Of t v
of_from t v l f = and_from (leb (size v) 256) (formed v t) (le-leb (size v) 256 l) f

letters_typed : (s : List ℕ) → printables s ≡ true → AllByRecursion (Of texts) (map letter s)
letters_typed [] f = tt
letters_typed (c ∷ s) f = let i = and_parts (printable c) (printables s) f in (and_from (printable c) true i.0 refl, letters_typed s i.1)

entries_typed : (t : Ty) (r : Vals) → sizes r ≤ 256 → all_formed r t ≡ true → AllByRecursion (Of t) (listed r)
entries_typed t none l f = tt
entries_typed t (more v r) l f = let i = and_parts (formed v t) (all_formed r t) f in (of_from t v (omega arith) i.0, entries_typed t r (omega arith) i.1)

associates_typed : (t u : Ty) (p : Pairs) → pair_sizes p ≤ 256 → pairs_formed p t u ≡ true → AllByRecursion (Of u) (associates p)
associates_typed t u empty l f = tt
associates_typed t u (pair k a p) l f =
    let i = and_parts (formed k t) (formed a u && pairs_formed p t u) f in
    let j = and_parts (formed a u) (pairs_formed p t u) i.1 in
    (of_from u a (omega arith) j.0, associates_typed t u p (omega arith) j.1)

items_typed : (v : Val) (y : Ty) → size v ≤ 256 → formed v y ≡ true → AllOf (item_type y) (items_of v)
items_typed (num n) y l f = let p = number_kind n y f in subst (λ y. AllOf (item_type y) (items_of (num n))) (sym p.0) tt
items_typed (text s) y l f = let p = text_kind s y f in subst (λ y. AllOf (item_type y) (items_of (text s))) (sym p.0) (letters_typed s p.1)
items_typed (comp r) y l f = let p = comp_kind r y f in subst (λ y. AllOf (item_type y) (items_of (comp r))) (sym p.1) tt
items_typed (list r) y l f = let p = list_kind r y f in subst (λ y. AllOf (item_type y) (items_of (list r))) (sym p.1) (entries_typed p.0 r (omega arith) p.3)
items_typed (table q) y l f = let p = table_kind q y f in subst (λ y. AllOf (item_type y) (items_of (table q))) (sym p.2) (associates_typed p.0 p.1 q (omega arith) p.4)

pub typed : (v : Val) (o : Option (List Val)) → o ≡ items_of v → ItemsTyped v o
typed v o e = subst (ItemsTyped v) (sym e) (λ y h. let i = of_parts y v h in items_typed v y i.0 i.1)

-- ---- how many there are

some_size : (v : Val) → 1 ≤ size v
some_size (num n) = omega arith
some_size (text s) = omega arith
some_size (comp r) = omega arith
some_size (list r) = omega arith
some_size (table p) = omega arith

entries_few : (r : Vals) → length (listed r) ≤ sizes r
entries_few none = omega arith
entries_few (more v r) = let h = entries_few r in let i = some_size v in omega arith

associates_few : (p : Pairs) → length (associates p) ≤ pair_sizes p
associates_few empty = omega arith
associates_few (pair k a p) = let h = associates_few p in let i = some_size a in omega arith

-- so many, as far as a word counts
few : (n : ℕ) → n ≤ 255 → (min n (2 ^ 64 - 1) ≤ 255) × Of number (num (pos (min n (2 ^ 64 - 1))))
few n l = (omega arith, le-leb (min n (2 ^ 64 - 1)) 999999999 (omega arith))

counted_few : (v : Val) → size v ≤ 256 → IfSome (counted v) (λ n. (n ≤ 255) × Of number (num (pos n)))
counted_few (num n) l = tt
counted_few (text s) l = let h = length-map s letter in few (length (map letter s)) (omega arith)
counted_few (comp r) l = tt
counted_few (list r) l = let h = entries_few r in few (length (listed r)) (omega arith)
counted_few (table p) l = let h = associates_few p in few (length (associates p)) (omega arith)

pub few_counted : (v : Val) (n : ℕ) → Some n ≡ counted v → Counted v (Some n)
few_counted v n e = subst (Counted v) (sym e) (λ y h. counted_few v (of_parts y v h).0)
