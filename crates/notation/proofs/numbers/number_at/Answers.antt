use Rattle.std.proofs.Common.{rules}
use Rattle.notation.proofs.Counting.{unsigned}
use Rattle.notation.proofs.numbers.number_at.Goals as goal

pub returns-else-begins : goal.returns-else-begins
returns-else-begins c = search (rules, unsigned)
