use Rattle.std.proofs.Common.{◌≡◌, true, false, refl, add-one, rules}
use Rattle.std.proofs.lemmas.List.{take_rest}
use Rattle.tables.proofs.Kept.{association}
use Rattle.tables.proofs.Places.{put_found, joined_pairs}
use Rattle.tables.proofs.edits.put.Goals as goal
use Rattle.tables.proofs.edits.put.Goals.{in-Ok, in-Err}
use Rattle.tables.specs.Tables.{associated}
use Rattle.values.specs.declared.value.Entry.{Entry}
use Rattle.values.specs.Means.{val, pairs}

pub returns : goal.returns
returns c =
    let entry : Entry = record { key = c.args.key; associate = c.args.associate } in
    let j = joined_pairs _ _ _ _ c.in_ok-table.ensures in
    let e : pairs c.in_ok-table.table.items ≡ associated (val c.args.key) (val c.args.associate) (pairs c.args.entries.now) = elim c.match-find.branch [
      | in-Ok w ↦ (let f = put_found _ c.args.entries.now refl w.in-Ok.place true entry w.in-Ok.ensures.place in search (rules, f, j, take_rest, add-one, w.from-is))
      | in-Err w ↦ (let f = put_found _ c.args.entries.now refl w.in-Err.place false entry w.in-Err.ensures.place in search (rules, f, j, take_rest, w.from-is))
    ] in
    record { value = e; law = association _ _ _ _ e }
