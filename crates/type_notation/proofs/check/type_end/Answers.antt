use Rattle.std.proofs.Common.{◌+◌, ◌-◌, ap, ◌∙◌}
use Rattle.std.proofs.lemmas.Result.{err_from_is_err_and}
use Rattle.type_notation.proofs.check.type_end.Goals as goal
use Rattle.type_notation.proofs.Dues.{due_more, due_fails, due_ends}

pub loop-due-preserved : goal.loop-due-preserved
loop-due-preserved c = due_more _ _ _ c.loop-due.invariant c.loop-due-test.true c.in_ok-shape.shape _ _ c.in_ok-shape.ensures (ap (λ x. c.loop-due.due - 1 + x) (c.from.ensures ∙ c.arity.ensures))

pub returns-in_err-shape : goal.returns-in_err-shape
returns-in_err-shape c =
    let p = err_from_is_err_and c.from_residual.result c.from_residual.ensures.1 in
    let n = c.in_err-shape.ensures in
    rw (p.1, p.2) (n.1 c.loop-due.invariant.high, due_fails _ _ _ c.loop-due.invariant c.loop-due-test.true _ n.2)

pub returns : goal.returns
returns c = (c.loop-due.invariant.high, due_ends _ _ _ c.loop-due.invariant c.loop-due-test.false)
