use Rattle.std.proofs.Common.{◌≡◌, arith}
use Rattle.std.proofs.lemmas.Result.{err_from_is_err_and}
use Rattle.type_notation.proofs.Dues.{byte_some, shape_none, shape_end, shape_odd}
use Rattle.type_notation.proofs.shape.shape_at.Goals as goal

pub returns-in_err-ok_or : goal.returns-in_err-ok_or
returns-in_err-ok_or c =
    let p = err_from_is_err_and c.from_residual.result c.from_residual.ensures.1 in
    rw (p.1, p.2) (shape_end _ _ _ _ c.byte_at.ensures c.in_err-ok_or.ensures.value)

pub returns-in_err-count-in-99 : goal.returns-in_err-count-in-99
returns-in_err-count-in-99 c =
    let p = err_from_is_err_and c.from_residual-in_err-count-in-99.result c.from_residual-in_err-count-in-99.ensures.1 in
    let b = byte_some _ _ _ _ c.byte_at.ensures c.in_ok-ok_or.ensures.value in
    rw (p.1, p.2) (shape_odd _ _ _ _ (rw c.in-99.is at b) c.count_at.ensures c.in_err-count-in-99.ensures.value)

pub returns-in_default : goal.returns-in_default
returns-in_default c =
    let f = (byte_some _ _ _ _ c.byte_at.ensures c.in_ok-ok_or.ensures.value).1 in
    (omega arith, λ h. h, shape_none _ (λ b Z g k. let i : c.in_ok-ok_or.field-0 ≡ b = cc in omega arith))
