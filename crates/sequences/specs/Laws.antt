-- The items of a value of a type.
use Rattle.std.specs.Prelude.{ℕ, ◌≤◌, List, pos, IfSome, Some, None, Option}
use Rattle.std.specs.List.{AllByRecursion}
use Rattle.types.specs.Model.{Ty, number, texts, comps, lists, tables}
use Rattle.types.specs.Types.{Of}
use Rattle.value_model.specs.Model.{Val, num}

-- the type of the items of a value of the type
abbrev pub item_type : Ty → Option Ty
item_type number = None
item_type texts = Some texts
item_type (comps ts) = None
item_type (lists t) = Some t
item_type (tables t u) = Some u

-- values of the type, or neither
abbrev pub AllOf : Option Ty → Option (List Val) → Type 0
AllOf None None = Unit {0}
AllOf None (Some vs) = ⊥
AllOf (Some t) None = ⊥
AllOf (Some t) (Some vs) = AllByRecursion (Of t) vs

-- a value of a type has items exactly where the type has a type of items, and each is of that type
abbrev pub ItemsTyped : Val → Option (List Val) → Type 0
ItemsTyped v o = (y : Ty) → Of y v → AllOf (item_type y) o

-- a value of a type has few items
abbrev pub Counted : Val → Option ℕ → Type 0
Counted v o = (y : Ty) → Of y v → IfSome o (λ n. (n ≤ 255) × Of number (num (pos n)))
