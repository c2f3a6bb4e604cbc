use Rattle.std.proofs.Common.{rules}
use Rattle.types.proofs.Shared.{as_many, ty_compound}
use Rattle.values.proofs.Shared.{val_compound, val_list, val_table}
use Rattle.types.proofs.admits.+formed.Goals as goal

pub is_formed-returns-in-Compound-expected : goal.is_formed-returns-in-Compound-expected
is_formed-returns-in-Compound-expected t c = search (rules, val_compound, ty_compound)

pub is_formed-returns-then-is_ascending : goal.is_formed-returns-then-is_ascending
is_formed-returns-then-is_ascending t c = search (rules, val_list)

pub is_formed-returns-else-is_ascending : goal.is_formed-returns-else-is_ascending
is_formed-returns-else-is_ascending t c = search (rules, val_list)

pub is_formed-returns-then-has_ascending_keys : goal.is_formed-returns-then-has_ascending_keys
is_formed-returns-then-has_ascending_keys t c = search (rules, val_table)

pub is_formed-returns-else-has_ascending_keys : goal.is_formed-returns-else-has_ascending_keys
is_formed-returns-else-has_ascending_keys t c = search (rules, val_table)

pub is_each_formed-returns-then-row-fields : goal.is_each_formed-returns-then-row-fields
is_each_formed-returns-then-row-fields t c = as_many _ _ c.if-row-fields.true
