use Rattle.std.proofs.Common.{arith}
use Rattle.std.proofs.lemmas.Grind.{common_steps}
use Rattle.std.proofs.lemmas.Option.{slice_get-map, gets}
use Rattle.sequences.proofs.Rows.{list_items, table_items}
use Rattle.sequences.proofs.items.item_at.Goals as goal

pub returns-in-List-clause-item : goal.returns-in-List-clause-item
returns-in-List-clause-item c = grind (arith, common_steps, gets, list_items, slice_get-map)

pub returns-in-Table-clause-item : goal.returns-in-Table-clause-item
returns-in-Table-clause-item c = grind (arith, common_steps, gets, table_items, slice_get-map)
