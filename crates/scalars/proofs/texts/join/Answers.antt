use Rattle.std.proofs.Common.{rules}
use Rattle.scalars.proofs.Kept.{append_kept}
use Rattle.scalars.proofs.texts.join.Goals as goal

pub returns-clause-law : goal.returns-clause-law
returns-clause-law c = append_kept c.args.a.now c.args.b.now _ (search rules)
