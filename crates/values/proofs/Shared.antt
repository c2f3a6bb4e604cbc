-- What a value with a row means, by the items of the row.
use Rattle.std.proofs.Common.{◌≡◌, ◌+◌, List, [], ◌∷◌, map, refl, sym, ap, ◌∙◌, Vec, Global}
use mathlib.Core.Former.{Count}
use Rattle.std.specs.declared.rc.Rc.{Rc}
use Rattle.std.proofs.lemmas.List.Sums.{sum_by-cons}
use Rattle.std.specs.List.{AllZip, sum_by}
use Rattle.std.specs.Cmp.Lexicographic.{slice_cmp}
use Rattle.std.specs.Ordering.{on, ordering_then}
use Rattle.value_model.specs.Sizes.{size, sizes, pair_sizes}
use Rattle.value_model.specs.Order.{cmp, cmps, cmp_pairs}
use Rattle.values.specs.declared.value.Entry.{Entry}
use Rattle.values.specs.declared.value.Value.{Value, Compound, List as ListValue, Table, List', Table', Row_of-Value, end_of-Value, more_of-Value, Row_of-Entry, end_of-Entry, more_of-Entry, items-the_row-Value, items-the_row-Entry, items_hidden-the_row-Value-0, items_hidden-the_row-Entry-1}
use Rattle.value_model.proofs.Ordered.{then_assoc}
use Rattle.values.specs.Entries.{entry_cmp}
use Rattle.values.specs.Means.{val, vals, pairs, row_vals, row_pairs}
use Rattle.value_model.specs.Model.{comp, list, table, more, pair}

vals_row : (n : _) (r : Row_of-Value n) → row_vals r ≡ vals (items-the_row-Value n r)
vals_row n end_of-Value = refl
vals_row n (more_of-Value v r) = ap (more (val v)) (vals_row _ r)

pairs_row : (n : _) (r : Row_of-Entry n) → row_pairs r ≡ pairs (items-the_row-Entry n r)
pairs_row n end_of-Entry = refl
pairs_row n (more_of-Entry k a p) = ap (pair (val k) (val a)) (pairs_row _ p)

abbrev row_in : Value → (n : Count) × Row_of-Value n
row_in (List' c s r) = (_, r)
row_in v = (_, end_of-Value)

abbrev entries_in : Value → (n : Count) × Row_of-Entry n
entries_in (Table' c s r) = (_, r)
entries_in v = (_, end_of-Entry)

vals_in : (row : Rc (Vec Value Global) Global) → row_vals (row_in (ListValue row)).1 ≡ vals row.value.items
vals_in row = let r = row_in (ListValue row) in vals_row r.0 r.1 ∙ ap vals (items_hidden-the_row-Value-0 row.value)

pub val_compound : (row : Rc (Vec Value Global) Global) → val (Compound row) ≡ comp (vals row.value.items)
val_compound row = ap comp (vals_in row)

pub val_list : (row : Rc (Vec Value Global) Global) → val (ListValue row) ≡ list (vals row.value.items)
val_list row = ap list (vals_in row)

pub val_table : (row : Rc (Vec Entry Global) Global) → val (Table row) ≡ table (pairs row.value.items)
val_table row =
    let r = entries_in (Table row) in
    ap table (pairs_row r.0 r.1 ∙ ap pairs (items_hidden-the_row-Entry-1 row.value))

-- the library's order of slices is the order of rows
pub slices : (vs ws : List Value) → slice_cmp (on val cmp) vs ws ≡ cmps (vals vs) (vals ws)
slices [] [] = refl
slices [] (w ∷ ws) = refl
slices (v ∷ vs) [] = refl
slices (v ∷ vs) (w ∷ ws) = ap (ordering_then (cmp (val v) (val w))) (slices vs ws)

pub entry_slices : (ds es : List Entry) → slice_cmp entry_cmp ds es ≡ cmp_pairs (pairs ds) (pairs es)
entry_slices [] [] = refl
entry_slices [] (e ∷ es) = refl
entry_slices (d ∷ ds) [] = refl
entry_slices (d ∷ ds) (e ∷ es) =
    ap (ordering_then (entry_cmp d e)) (entry_slices ds es) ∙ sym (then_assoc (cmp (val d.key) (val e.key)) (cmp (val d.associate) (val e.associate)) (cmp_pairs (pairs ds) (pairs es)))

-- the sizes of the items are those of the row
pub sizes_of : (vs : List Value) → sum_by (λ v. size (val v)) vs ≡ sizes (vals vs)
sizes_of [] = refl
sizes_of (v ∷ vs) = sum_by-cons (λ v. size (val v)) v vs ∙ ap (◌+◌ (size (val v))) (sizes_of vs)

pub pair_sizes_of : (es : List Entry) → sum_by (λ e. size (val e.key) + size (val e.associate)) es ≡ pair_sizes (pairs es)
pair_sizes_of [] = refl
pair_sizes_of (e ∷ es) =
    sum_by-cons (λ e. size (val e.key) + size (val e.associate)) e es ∙ ap (◌+◌ (size (val e.key) + size (val e.associate))) (pair_sizes_of es)

-- clones mean what was cloned
pub clones : (vs ws : List Value) → AllZip (λ v w. val w ≡ val v) vs ws → map val ws ≡ map val vs
clones [] [] h = refl
clones [] (w ∷ ws) h = absurd h
clones (v ∷ vs) [] h = absurd h
clones (v ∷ vs) (w ∷ ws) h = λ i. h.0 i ∷ clones vs ws h.1 i

pub entry_clones : (ds es : List Entry) → AllZip (λ d e. (val e.key ≡ val d.key) × (val e.associate ≡ val d.associate)) ds es → pairs es ≡ pairs ds
entry_clones [] [] h = refl
entry_clones [] (e ∷ es) h = absurd h
entry_clones (d ∷ ds) [] h = absurd h
entry_clones (d ∷ ds) (e ∷ es) h = λ i. pair (h.0.0 i) (h.0.1 i) (entry_clones ds es h.1 i)
