use Rattle.std.proofs.Common.{◌≡◌, ◌<◌, length, Some, rules, arith}
use Rattle.std.proofs.lemmas.Grind.{common_steps}
use Rattle.std.proofs.lemmas.List.{drop_more}
use Rattle.std.specs.Option.{option_map}
use Rattle.tables.proofs.Kept.{selection}
use Rattle.tables.proofs.Places.{selected_located}
use Rattle.tables.proofs.reads.select.Goals as goal
use Rattle.tables.specs.Tables.{selected}
use Rattle.values.specs.Means.{val, pairs}

pub returns : goal.returns
returns c =
    let s = selected_located (val c.args.key.now) c.args.entries.now c.find.result c.find.ensures.place in
    let l : c.in_ok-place.place < length c.args.entries.now = grind (arith, common_steps) in
    let d = drop_more c.args.entries.now c.in_ok-place.place c.index-entries-place.result l in
    let e : Some (val c.index-entries-place.result.associate) ≡ selected (val c.args.key.now) (pairs c.args.entries.now) = grind (arith, common_steps) in
    record { value = search (rules, e); law = selection _ _ _ (search (rules, e)) }

pub returns-in_err-place : goal.returns-in_err-place
returns-in_err-place c =
    let s = selected_located (val c.args.key.now) c.args.entries.now c.find.result c.find.ensures.place in
    let e : option_map (λ x. val x.now) c.from_residual.result ≡ selected (val c.args.key.now) (pairs c.args.entries.now) = grind (arith, common_steps) in
    record { value = e; law = selection _ _ _ e }
