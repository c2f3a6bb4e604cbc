use Rattle.std.proofs.Common.{true, Err, refl, sym, add-one, rules}
use Rattle.std.proofs.lemmas.List.{take_rest}
use Rattle.tables.proofs.Kept.{deletion, no_key}
use Rattle.tables.proofs.Places.{without_found, deleted_located, selected_located, joined_pairs}
use Rattle.tables.proofs.edits.delete.Goals as goal
use Rattle.values.specs.Means.{val, pairs}

pub returns-in_ok-table-in-Ok : goal.returns-in_ok-table-in-Ok
returns-in_ok-table-in-Ok c =
    let j = joined_pairs _ _ _ _ c.in_ok-table-in-Ok.ensures in
    let e = without_found _ c.args.entries.now refl c.in-Ok.place true (val c.args.key.now) c.in-Ok.ensures.place in
    let d = deleted_located _ _ _ _ c.in-Ok.ensures.place in
    record { value = search (rules, e, d, j, take_rest, add-one); law = deletion _ _ _ (search (rules, e, j, take_rest, add-one)) }

pub returns-in-Err : goal.returns-in-Err
returns-in-Err c = record {
  value = sym (deleted_located _ _ _ _ c.in-Err.ensures.place);
  law = no_key (val c.args.key.now) (pairs c.args.entries.now) (selected_located (val c.args.key.now) c.args.entries.now (Err c.in-Err.field-0) c.in-Err.ensures.place);
}
