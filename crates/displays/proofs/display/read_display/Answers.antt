use Rattle.std.proofs.Common.{Ok, Err, sym, ◌∙◌}
use Rattle.displays.proofs.display.read_display.Goals as goal
use Rattle.displays.proofs.Meant.{whole_answered, stopped_meant, fault_meant, admitted_meant, refused_meant, read_back}
use Rattle.displays.specs.declared.fault.DisplayFault.TheVariants.{Conflict}
use Rattle.displays.specs.Faults.{fault_of}
use Rattle.std.proofs.lemmas.Result.{err_from_is_err_and}
use Rattle.types.specs.Model.{ty_of}

pub returns-in_err-read_at : goal.returns-in_err-read_at
returns-in_err-read_at c =
    let p = err_from_is_err_and c.from_residual.result c.from_residual.ensures.1 in
    let t = ty_of c.args.expected.now in
    let s = c.args.s.now in
    let m = stopped_meant t s _ c.in_err-read_at.ensures in
    rw (p.1, p.2) (record { value = m; typed = tt; inverse = λ v o e. read_back t s v o e (Err c.in_err-read_at.field-0.0) m })

pub returns-in_err-value : goal.returns-in_err-value
returns-in_err-value c =
    let p = err_from_is_err_and c.from_residual-in_err-value.result c.from_residual-in_err-value.ensures.1 in
    let t = ty_of c.args.expected.now in
    let s = c.args.s.now in
    let a = whole_answered t s c.in_ok-read_at.field-0 _ _ c.in_ok-read_at.ensures.2 c.whole.ensures c.in_err-value.was in
    let m = fault_meant t s _ a in
    rw (p.1, p.2) (record { value = m; typed = tt; inverse = λ v o e. read_back t s v o e (Err (fault_of c.in_err-value.field-0.0)) m })

pub returns-then-not-admits : goal.returns-then-not-admits
returns-then-not-admits c =
    let t = ty_of c.args.expected.now in
    let s = c.args.s.now in
    let a = whole_answered t s c.in_ok-read_at.field-0 _ _ c.in_ok-read_at.ensures.2 c.whole.ensures c.in_ok-value.was in
    let m = refused_meant t s _ a (sym c.admits.ensures ∙ c.if-not-admits.true) in
    record { value = m; typed = tt; inverse = λ v o e. read_back t s v o e (Err Conflict) m }

pub returns : goal.returns
returns c =
    let t = ty_of c.args.expected.now in
    let s = c.args.s.now in
    let a = whole_answered t s c.in_ok-read_at.field-0 _ _ c.in_ok-read_at.ensures.2 c.whole.ensures c.in_ok-value.was in
    let o = sym c.admits.ensures ∙ c.if-not-admits.false in
    let m = admitted_meant t s _ a o in
    record { value = m; typed = o; inverse = λ v o e. read_back t s v o e (Ok c.in_ok-value.value) m }
