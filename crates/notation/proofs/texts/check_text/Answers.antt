use Rattle.std.proofs.Common.{◌≡◌, length, arith, rules}
use Rattle.notation.proofs.Faults.{was_ok, was_err}
use Rattle.notation.proofs.Quoting.{text_readable}
use Rattle.reading.proofs.Whole.{answered, stuck_wrong}
use Rattle.reading.specs.declared.fault.Fault.TheVariants.{Syntax}
use Rattle.std.proofs.lemmas.Result.{err_from_is_err_and}
use Rattle.notation.proofs.texts.check_text.Goals as goal
use Rattle.notation.specs.Texts.{text_fits}

pub returns-in_err-map_err : goal.returns-in_err-map_err
returns-in_err-map_err c =
    let p = err_from_is_err_and c.from_residual.result c.from_residual.ensures.1 in
    let f = was_err c.text_at.result c.in_err-map_err.field-0.0 c.in_err-map_err.ensures.cases in
    let g : c.in_err-map_err.field-0.0 ≡ Syntax f.0 = search rules in
    let e = rw f.1 at c.text_at.ensures in
    rw (p.1, p.2, g) (stuck_wrong _ _ _ _ text_readable _ _ (e.1 (omega arith)) e.2)

pub returns : goal.returns
returns c =
    let a = was_ok c.text_at.result c.in_ok-map_err.field-0 c.in_ok-map_err.ensures.cases (λ k q. q) in
    let e = (rw a at c.text_at.ensures).2 in
    rw c.whole.ensures (answered _ _ _ _ text_readable _ e.codes _ e.printed e.shows e.after text_fits (λ t n. n ≡ length t) _ _ e.within (λ _. e.counts))
