use Rattle.std.proofs.Common.{rules}
use Rattle.std.proofs.lemmas.List.{length-map}
use Rattle.sequences.proofs.Rows.{list_items, table_items}
use Rattle.sequences.proofs.Typed.{few_counted}
use Rattle.sequences.proofs.counts.count.Goals as goal

pub returns-in-List-clause-value : goal.returns-in-List-clause-value
returns-in-List-clause-value c = search (rules, list_items, length-map)

pub returns-in-List-clause-law : goal.returns-in-List-clause-law
returns-in-List-clause-law c = few_counted _ _ (search (rules, list_items, length-map))

pub returns-in-Table-clause-value : goal.returns-in-Table-clause-value
returns-in-Table-clause-value c = search (rules, table_items, length-map)

pub returns-in-Table-clause-law : goal.returns-in-Table-clause-law
returns-in-Table-clause-law c = few_counted _ _ (search (rules, table_items, length-map))
