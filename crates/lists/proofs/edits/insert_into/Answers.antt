use Rattle.std.proofs.Common.{rules}
use Rattle.lists.proofs.Kept.{one_more}
use Rattle.lists.proofs.Places.{located_rank, put_in}
use Rattle.lists.proofs.edits.insert_into.Goals as goal

pub returns : goal.returns
returns c =
    let p = located_rank _ _ _ c.unwrap_or_else-place.result c.find.ensures.place (search rules) in
    let e = put_in c.args.value c.deref.result.now c.args.row.now.items _ p (search rules) in
    record { value = search (rules, e); law = one_more _ _ _ (search (rules, e)); err = tt }
