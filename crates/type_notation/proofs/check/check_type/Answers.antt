use Rattle.std.proofs.Common.{◌≡◌, ℕ, ◌≤◌, List, length, Ok, Err, rules, sym, ◌∙◌}
use Rattle.std.proofs.lemmas.Result.{err_from_is_err_and}
use Rattle.reading.proofs.Whole.{stuck_wrong, long_wrong, whole_written}
use Rattle.reading.specs.declared.fault.Fault.TheVariants.{Syntax}
use Rattle.reading.specs.Reading.{Written}
use Rattle.type_notation.proofs.check.check_type.Goals as goal
use Rattle.type_notation.proofs.Prefixes.{type_readable}
use Rattle.type_notation.specs.Shapes.{TypeEnd}
use Rattle.type_notation.specs.TypeTexts.{TypeForm}
use Rattle.types.specs.Model.{Ty}

pub returns-in_err-end : goal.returns-in_err-end
returns-in_err-end c =
    let p = err_from_is_err_and c.from_residual.result c.from_residual.ensures.1 in
    let h : (k : ℕ) × (c.type_end.result ≡ Err k) × (c.in_err-end.field-0.0 ≡ Syntax k) = search rules in
    let e = rw h.1 at c.type_end.ensures in
    rw (p.1, p.2, h.2) (stuck_wrong _ _ _ _ type_readable c.args.s.now h.0 e.0 e.1)

pub returns-then-end-s : goal.returns-then-end-s
returns-then-end-s c =
    let h : TypeEnd c.args.s.now (Ok c.in_ok-end.end) = search rules in
    let e = h.1 in
    long_wrong _ _ _ _ type_readable c.args.s.now e.0 c.in_ok-end.end e.1.0 e.1.1 tt c.if-end-s.true

whole : (s : List ℕ) (end : ℕ) → TypeEnd s (Ok end) → length s ≤ end → (t : Ty) × Written TypeForm s t
whole s end h l = let e = h.1 in (e.0, whole_written _ _ _ _ type_readable s e.0 end e.1.0 e.1.1 tt l)

pub returns-then-not-keeps_limits : goal.returns-then-not-keeps_limits
returns-then-not-keeps_limits c =
    let w = whole c.args.s.now c.in_ok-end.end (search rules) c.if-end-s.false in
    (w.0, w.1, sym (c.keeps_limits.ensures w.0 w.1.form) ∙ c.if-not-keeps_limits.true)

pub returns : goal.returns
returns c =
    let w = whole c.args.s.now c.in_ok-end.end (search rules) c.if-end-s.false in
    (w.0, w.1, sym (c.keeps_limits.ensures w.0 w.1.form) ∙ c.if-not-keeps_limits.false, tt)
