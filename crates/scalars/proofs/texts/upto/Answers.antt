use Rattle.std.proofs.Common.{rules}
use Rattle.scalars.proofs.Kept.{prefix_kept}
use Rattle.scalars.proofs.texts.upto.Goals as goal

pub returns-clause-law : goal.returns-clause-law
returns-clause-law c = prefix_kept c.args.codes.now c.args.count _ (search rules)
