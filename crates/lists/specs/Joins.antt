-- A row edited at one place.
use Rattle.std.specs.Prelude.{◌≡◌, List, ◌++◌, Option}
use Rattle.std.specs.List.{AllZip, cons_option}

-- ws is clones of xs, then the item, if there is one, and clones of zs
pub record Joined {X : Type 0} (clones : X → X → Type 0) (xs : List X) (item : Option X) (zs ws : List X) : Type 0 where
  pub front : List X
  pub rest : List X
  pub whole : ws ≡ front ++ cons_option item rest
  pub front_clones : AllZip clones xs front
  pub rest_clones : AllZip clones zs rest
