use Rattle.std.proofs.Common.{rules}
use Rattle.values.proofs.Shared.{slices, entry_slices, val_list, val_compound, val_table}
use Rattle.values.proofs.+order.Goals as goal

pub order::ValueOrd::cmp-returns-in-Compound-other-2 : goal.order::ValueOrd::cmp-returns-in-Compound-other-2
order::ValueOrd::cmp-returns-in-Compound-other-2 t c = search (rules, slices, val_compound)

pub order::ValueOrd::cmp-returns-in-List-other-2 : goal.order::ValueOrd::cmp-returns-in-List-other-2
order::ValueOrd::cmp-returns-in-List-other-2 t c = search (rules, slices, val_list)

pub order::ValueOrd::cmp-returns-in-Table-other-2 : goal.order::ValueOrd::cmp-returns-in-Table-other-2
order::ValueOrd::cmp-returns-in-Table-other-2 t c = search (rules, entry_slices, val_table)
