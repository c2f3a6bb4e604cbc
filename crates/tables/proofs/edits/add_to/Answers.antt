use Rattle.std.proofs.Common.{true, false, sym, refl, ap, ◌∙◌}
use Rattle.std.proofs.lemmas.List.{take-append-drop}
use Rattle.tables.proofs.Kept.{addition}
use Rattle.tables.proofs.Places.{added_found}
use Rattle.tables.proofs.edits.add_to.Goals as goal
use Rattle.values.specs.Means.{pairs}

pub returns-in-Ok : goal.returns-in-Ok
returns-in-Ok c =
    let f = rw c.deref.ensures.value at c.in-Ok.ensures.place in
    let e = ap pairs (sym (take-append-drop c.in-Ok.field-0 _)) ∙ added_found _ c.args.entries.now.items refl c.in-Ok.field-0 true (record { key = c.args.key; associate = c.args.associate }) f in
    record { value = e; law = addition _ _ _ _ e; err = tt }

pub returns-in_ok-insert-in-Err : goal.returns-in_ok-insert-in-Err
returns-in_ok-insert-in-Err c =
    let f = rw c.deref.ensures.value at c.in-Err.ensures.place in
    let e = ap pairs c.in_ok-insert-in-Err.ensures.items ∙ added_found _ c.args.entries.now.items refl c.in-Err.place false (record { key = c.args.key; associate = c.args.associate }) f in
    record { value = e; law = addition _ _ _ _ e; err = tt }
