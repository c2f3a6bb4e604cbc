-- The items of a list and of a table, by what its row holds.
use Rattle.std.proofs.Common.{◌≡◌, List, [], ◌∷◌, map, Some, refl, ap, ◌∙◌, Vec, Global}
use Rattle.std.specs.declared.rc.Rc.{Rc}
use Rattle.sequences.specs.Sequences.{associates, items_of}
use Rattle.values.proofs.Shared.{val_list, val_table}
use Rattle.values.specs.declared.value.Entry.{Entry}
use Rattle.values.specs.declared.value.Value.{Value, List as ListValue, Table}
use Rattle.values.specs.Means.{val, pairs}
use Rattle.value_model.specs.Model.{Val}
use Rattle.value_model.specs.Rows.{row_of, listed}

listed_row : (vs : List Val) → listed (row_of vs) ≡ vs
listed_row [] = refl
listed_row (v ∷ vs) = ap (λ us. v ∷ us) (listed_row vs)

associates_of : (es : List Entry) → associates (pairs es) ≡ map (λ e. val e.associate) es
associates_of [] = refl
associates_of (e ∷ es) = ap (λ us. val e.associate ∷ us) (associates_of es)

pub list_items : (row : Rc (Vec Value Global) Global) → items_of (val (ListValue row)) ≡ Some (map val row.value.items)
list_items row = ap items_of (val_list row) ∙ ap Some (listed_row (map val row.value.items))

pub table_items : (entries : Rc (Vec Entry Global) Global) → items_of (val (Table entries)) ≡ Some (map (λ e. val e.associate) entries.value.items)
table_items entries = ap items_of (val_table entries) ∙ ap Some (associates_of entries.value.items)
