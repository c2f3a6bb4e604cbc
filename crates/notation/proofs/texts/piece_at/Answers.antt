use Rattle.std.proofs.Common.{arith, rules}
use Rattle.notation.proofs.Quoting.{end_none, end_back, unprintable}
use Rattle.notation.proofs.texts.piece_at.Goals as goal
use Rattle.std.proofs.lemmas.Bool.Decides.{nat_tests}

pub returns-in_err-code : goal.returns-in_err-code
returns-in_err-code c = search (rules, end_none)

pub returns-in-96-2 : goal.returns-in-96-2
returns-in-96-2 c = search (rules, end_back)

pub returns-in_default : goal.returns-in_default
returns-in_default c = unprintable _ _ _ _ c.byte_at.ensures c.in_ok-code.ensures.ok_part (grind (arith, nat_tests))

pub returns-in_default-2 : goal.returns-in_default-2
returns-in_default-2 c = unprintable _ _ _ _ c.byte_at.ensures c.in_ok-code.ensures.ok_part (grind (arith, nat_tests))
