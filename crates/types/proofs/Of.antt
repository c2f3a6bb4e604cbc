-- What it is to be a value of a type, by its parts.
use Rattle.std.proofs.Common.{◌≡◌, ◌≤◌, true, ◌&&◌, leb}
use Rattle.std.proofs.lemmas.Bool.{and_parts, and_from, le-leb, leb-true}
use Rattle.types.specs.Model.{Ty, lists}
use Rattle.types.specs.Types.{ascending, formed, all_formed, Of}
use Rattle.value_model.specs.Model.{Val, Vals, list}
use Rattle.value_model.specs.Sizes.{size}

pub of_list : (t : Ty) (r : Vals) → ascending r ≡ true → all_formed r t ≡ true → size (list r) ≤ 256 → Of (lists t) (list r)
of_list t r a f l = and_from (leb (size (list r)) 256) (ascending r && all_formed r t) (le-leb (size (list r)) 256 l) (and_from (ascending r) (all_formed r t) a f)

pub list_of : (t : Ty) (r : Vals) → Of (lists t) (list r) → (size (list r) ≤ 256) × (ascending r ≡ true) × (all_formed r t ≡ true)
list_of t r h =
    let p = and_parts (leb (size (list r)) 256) (ascending r && all_formed r t) h in
    let q = and_parts (ascending r) (all_formed r t) p.1 in
    (leb-true (size (list r)) 256 p.0, q.0, q.1)

pub of_formed : (t : Ty) (v : Val) → Of t v → formed v t ≡ true
of_formed t v h = (and_parts (leb (size v) 256) (formed v t) h).1
