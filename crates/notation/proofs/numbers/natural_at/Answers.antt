use Rattle.std.proofs.Common.{rules}
use Rattle.notation.proofs.Counting.{nat_none, zero_more}
use Rattle.notation.proofs.numbers.natural_at.Goals as goal

pub returns-in_err-first : goal.returns-in_err-first
returns-in_err-first c = search (rules, nat_none)

pub returns-in-0 : goal.returns-in-0
returns-in-0 c = search (rules, zero_more)
