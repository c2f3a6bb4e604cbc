-- The names of targets, by the search.
use Rattle.std.proofs.Common.{◌≡◌, ℕ, Bool, true, List, [], ◌∷◌, map, sym, refl, ap, subst}
use Rattle.search.proofs.Orders.{is_less, less_at_most}
use Rattle.search.specs.Search.{TotalOrder, rank, Found}
use Rattle.search.specs.Search as search
use Rattle.sheets.specs.declared.target.Target.{Target}
use Rattle.sheets.specs.Targets.{Declared, target_of, by_code, names, among, leads, ascending}
use Rattle.std.proofs.lemmas.Bool.{and_parts, and_from}
use Rattle.value_model.proofs.Ordered.{cmp_order}
use Rattle.value_model.specs.Model.{text}

-- names are ordered as texts are
pub by_code_order : TotalOrder by_code
by_code_order = record {
  flip = λ x y. cmp_order.flip (text x) (text y);
  trans = λ x y z. cmp_order.trans (text x) (text y) (text z);
  alike = λ x y z. cmp_order.alike (text x) (text y) (text z);
}

-- the names of targets, as the search takes them
pub names_of : (ts : List Target) → map (λ t. t.name.now) ts ≡ names (map target_of ts)
names_of [] = refl
names_of (t ∷ ts) = ap (λ r. t.name.now ∷ r) (names_of ts)

-- ---- the place of a name

names_ascending : (ts : List Declared) → ascending ts ≡ true → search.ascending by_code (names ts) ≡ true
names_ascending [] a = refl
names_ascending (t ∷ ts) a =
    let p = and_parts (leads t.name ts) (ascending ts) a in
    and_from (search.leads by_code t.name (names ts)) (search.ascending by_code (names ts)) (at_most ts p.0) (names_ascending ts p.1)
  where
    at_most : (ts : List Declared) → leads t.name ts ≡ true → search.leads by_code t.name (names ts) ≡ true
    at_most [] h = refl
    at_most (u ∷ us) h = less_at_most (by_code t.name u.name) (is_less (by_code t.name u.name) h)

pub place_tells : (ts : List Target) (n : List ℕ) (i : ℕ) (found : Bool) (left : List (List ℕ)) → ascending (map target_of ts) ≡ true → Found by_code n (map (λ t. t.name.now) ts) i found left
    → (among n (map target_of ts) ≡ found) × (i ≡ rank by_code n (names (map target_of ts)))
place_tells ts n i found left a f =
    let g = subst (λ ns. Found by_code n ns i found left) (names_of ts) f in
    (sym (g.parts by_code_order (names_ascending (map target_of ts) a)).tells, g.place)
