use Rattle.std.proofs.Common.{◌∷◌, ◌++◌, [], arith, length-append, rules}
use Rattle.std.proofs.lemmas.Result.{err_from_is_err_and}
use Rattle.notation.proofs.Quoting.{reading_more, reading_fails, text_none}
use Rattle.notation.proofs.texts.text_at.Goals as goal

pub returns-then-not-begins : goal.returns-then-not-begins
returns-then-not-begins c = search (rules, text_none)

pub returns-in_err-end : goal.returns-in_err-end
returns-in_err-end c =
    let p = err_from_is_err_and c.from_residual.result c.from_residual.ensures.1 in
    let i = c.loop-end.invariant.1 in
    let k = c.in_err-end.ensures in
    rw (p.1, p.2) (omega (arith, i.low, k.0), λ h. k.1 i.high, reading_fails _ _ _ _ _ i k.2)

pub loop-end-preserved : goal.loop-end-preserved
loop-end-preserved c =
    let i = c.loop-end.invariant in
    let k = rw c.in-Some.is at c.in_ok-end.ensures in
    (i.0 ++ (c.in-Some.field-0-0 ∷ []), reading_more _ _ _ _ _ _ i.1 k, simp length-append (omega (arith, i.2)))
