-- Values, as mathematics has them.
use Rattle.std.specs.Prelude.{ℕ, List, ℤ}

mutual
  pub data Val : Type 0 where
    num : ℤ → Val
    -- the codes of its characters
    text : List ℕ → Val
    comp : Vals → Val
    list : Vals → Val
    table : Pairs → Val

  pub data Vals : Type 0 where
    none : Vals
    more : Val → Vals → Vals

  -- keys with their associates
  pub data Pairs : Type 0 where
    empty : Pairs
    pair : Val → Val → Pairs → Pairs
