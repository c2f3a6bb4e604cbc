use Rattle.std.proofs.Common.{◌≡◌, arith}
use Rattle.std.proofs.lemmas.Grind.{common_steps}
use Rattle.tables.proofs.Kept.{key_list}
use Rattle.tables.proofs.Places.{keys_listed}
use Rattle.tables.proofs.reads.keys.Goals as goal
use Rattle.value_model.specs.Rows.{keys}
use Rattle.values.specs.Means.{vals, pairs}

pub returns : goal.returns
returns c =
    let e : vals c.loop-entry.row.items ≡ keys (pairs c.args.entries.now) = grind (arith, common_steps, keys_listed) in
    record { value = e; law = key_list _ _ e }
