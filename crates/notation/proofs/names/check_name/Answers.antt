use Rattle.std.proofs.Common.{rules}
use Rattle.notation.proofs.Naming.{name_wrong, name_written}
use Rattle.notation.proofs.names.check_name.Goals as goal
use Rattle.std.proofs.lemmas.Bool.{le-leb, lt-leb}

pub returns-then-byte-eq0 : goal.returns-then-byte-eq0
returns-then-byte-eq0 c = rw c.front-byte.ensures (name_wrong c.args.s.now (search rules))

pub returns-then-s-gt-LENGTH_LIMIT : goal.returns-then-s-gt-LENGTH_LIMIT
returns-then-s-gt-LENGTH_LIMIT c = (c.args.s.now, search (rules, name_written), lt-leb _ _ c.if-s-gt-LENGTH_LIMIT.true)

pub returns : goal.returns
returns c = (c.args.s.now, search (rules, name_written), le-leb _ _ c.if-s-gt-LENGTH_LIMIT.false, tt)
