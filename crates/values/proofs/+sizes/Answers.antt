use Rattle.std.proofs.Common.{rules}
use Rattle.values.proofs.Shared.{val_compound, val_list, val_table, sizes_of, pair_sizes_of}
use Rattle.values.proofs.+sizes.Goals as goal

pub value::Value::size-returns-in-Compound : goal.value::Value::size-returns-in-Compound
value::Value::size-returns-in-Compound t c = search (rules, val_compound, sizes_of)

pub value::Value::size-returns-in-Table : goal.value::Value::size-returns-in-Table
value::Value::size-returns-in-Table t c = search (rules, val_table, pair_sizes_of)

pub value::Value::size-returns-in-List : goal.value::Value::size-returns-in-List
value::Value::size-returns-in-List t c = search (rules, val_list, sizes_of)
