use Rattle.std.proofs.Common.{true, false, refl, sym, ap, ◌∙◌, rules}
use Rattle.std.proofs.lemmas.List.{take-append-drop, take_rest}
use Rattle.tables.proofs.Kept.{addition}
use Rattle.tables.proofs.Places.{added_found, joined_pairs}
use Rattle.tables.proofs.edits.add.Goals as goal
use Rattle.values.proofs.Shared.{entry_clones}
use Rattle.values.specs.Means.{pairs}

pub returns-in_ok-table-in-Ok : goal.returns-in_ok-table-in-Ok
returns-in_ok-table-in-Ok c =
    let s = entry_clones _ _ c.in_ok-table-in-Ok.ensures.items in
    let f = added_found _ c.args.entries.now refl c.in-Ok.field-0 true (record { key = c.args.key; associate = c.args.associate }) c.in-Ok.ensures.place in
    let e = s ∙ ap pairs (sym (take-append-drop c.in-Ok.field-0 _)) ∙ f in
    record { value = e; law = addition _ _ _ _ e }

pub returns-in_ok-table-in-Err : goal.returns-in_ok-table-in-Err
returns-in_ok-table-in-Err c =
    let j = joined_pairs _ _ _ _ c.in_ok-table-in-Err.ensures in
    let e = added_found _ c.args.entries.now refl c.in-Err.place false (record { key = c.args.key; associate = c.args.associate }) c.in-Err.ensures.place in
    record { value = search (rules, e, j, take_rest); law = addition _ _ _ _ (search (rules, e, j, take_rest)) }
