use Rattle.value_model.proofs.Ordered.{lawful}
use Rattle.values.proofs.value.Value.compare.Goals as goal

pub returns-clause-lawful : goal.returns-clause-lawful
returns-clause-lawful c = lawful
