-- What a row edited at one place means.
use Rattle.std.proofs.Common.{◌≡◌, List, ◌∷◌, ◌++◌, map, Some, None, Option, refl, ap, ◌∙◌}
use Rattle.lists.specs.Joins.{Joined}
use Rattle.std.proofs.lemmas.List.{map-append}
use Rattle.std.specs.List.{AllZip, cons_option}

-- where clones mean the same, the row means what the front, the item and the rest mean
pub joined_map : {X Y : Type 0} (m : X → Y) (clones : X → X → Type 0) → ((xs ys : List X) → AllZip clones xs ys → map m ys ≡ map m xs)
    → (xs zs ws : List X) (item : Option X) → Joined clones xs item zs ws → map m ws ≡ map m (xs ++ cons_option item zs)
joined_map {X} m clones same xs zs ws item j =
    let f = same _ _ j.front_clones in
    let r = onward item _ _ (same _ _ j.rest_clones) in
    ap (map m) j.whole ∙ simp (map-append, f, r) refl
  where
    onward : (o : Option X) (vs us : List X) → map m vs ≡ map m us → map m (cons_option o vs) ≡ map m (cons_option o us)
    onward None vs us e = e
    onward (Some x) vs us e = ap (◌∷◌ (m x)) e
