use Rattle.std.proofs.Common.{◌≡◌, arith, rules}
use Rattle.notation.proofs.Faults.{was_ok, was_err}
use Rattle.notation.proofs.Counting.{number_readable}
use Rattle.reading.proofs.Whole.{answered, stuck_wrong}
use Rattle.reading.specs.declared.fault.Fault.TheVariants.{Syntax}
use Rattle.std.proofs.lemmas.Result.{err_from_is_err_and}
use Rattle.notation.proofs.numbers.read_number.Goals as goal
use Rattle.types.specs.Types.{bounded}

pub returns-in_err-map_err : goal.returns-in_err-map_err
returns-in_err-map_err c =
    let p = err_from_is_err_and c.from_residual.result c.from_residual.ensures.1 in
    let f = was_err c.number_at.result c.in_err-map_err.field-0.0 c.in_err-map_err.ensures.cases in
    let g : c.in_err-map_err.field-0.0 ≡ Syntax f.0 = search rules in
    let e = rw f.1 at c.number_at.ensures in
    rw (p.1, p.2, g) (stuck_wrong _ _ _ _ number_readable _ _ (e.1 (omega arith)) e.2)

pub returns : goal.returns
returns c =
    let a = was_ok c.number_at.result c.in_ok-map_err.field-0 c.in_ok-map_err.ensures.cases (λ k q. q) in
    let e = (rw a at c.number_at.ensures).2 in
    rw c.whole.ensures (answered _ _ _ _ number_readable _ e.z _ tt e.shows e.after bounded (λ z n. n ≡ z) _ _ e.within e.means)
