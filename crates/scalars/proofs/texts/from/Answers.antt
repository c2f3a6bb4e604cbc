use Rattle.std.proofs.Common.{rules}
use Rattle.scalars.proofs.Kept.{suffix_kept}
use Rattle.scalars.proofs.texts.from.Goals as goal

pub returns-clause-law : goal.returns-clause-law
returns-clause-law c = suffix_kept c.args.codes.now c.args.first _ (search rules)
