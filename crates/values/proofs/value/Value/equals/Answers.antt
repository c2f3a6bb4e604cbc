use Rattle.std.proofs.lemmas.Bool.Decides.{Decides-at}
use Rattle.value_model.proofs.Ordered.{equal_decides}
use Rattle.values.proofs.value.Value.equals.Goals as goal

pub returns : goal.returns
returns c = Decides-at _ _ c.eq.ensures (equal_decides _ _)
