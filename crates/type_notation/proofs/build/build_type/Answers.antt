use Rattle.type_notation.proofs.build.build_type.Goals as goal
use Rattle.type_notation.proofs.Built.{builds_whole}

pub returns : goal.returns
returns c u f = builds_whole c.args.s.now _ _ c.in_ok-built.ensures.1 u f
