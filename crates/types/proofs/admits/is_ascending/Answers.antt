use Rattle.std.proofs.Common.{◌∙◌}
use Rattle.std.specs.Ordering.{as_partial_cmp, on, partial_le}
use Rattle.types.proofs.Sorted.{is_sorted_answer, sorted_row}
use Rattle.types.proofs.admits.is_ascending.Goals as goal
use Rattle.value_model.specs.Order.{cmp}
use Rattle.values.specs.Means.{val}

pub returns : goal.returns
returns c =
    is_sorted_answer (partial_le (as_partial_cmp (on val cmp))) c.args.row.now _ c.is_sorted.ensures.cases ∙ sorted_row c.args.row.now
