-- What `Items` holds.
use Rattle.std.specs.Prelude.{◌≡◌, List, [], ◌∷◌, drop, Some, None, Option}
use Rattle.std.specs.Option.{unwrap_or}
use Rattle.sequences.specs.declared.items.Items.{Items}
use Rattle.sequences.specs.Sequences.{items_of}
use Rattle.values.specs.Means.{val}
use Rattle.value_model.specs.Model.{Val}

-- the items of a value, and none for one without items
abbrev pub items_in : Val → List Val
items_in v = unwrap_or (items_of v) []

-- the items that are left
abbrev pub left : Items → List Val
left items = drop items.taken (items_in (val items.value))

-- o is the first of the items, and us are those after it
abbrev pub Taken : List Val → Option Val → List Val → Type 0
Taken vs None us = (vs ≡ []) × (us ≡ [])
Taken vs (Some v) us = vs ≡ v ∷ us
