use Rattle.std.proofs.Common.{◌≡◌, true, drop}
use Rattle.std.specs.Fmt.{IsPlainFormatter}
use Rattle.types.proofs.Shown.{Underway}
use Rattle.types.proofs.show.ValueTypeDisplay.+fmt.Given as goal
use Rattle.types.specs.Model.{tys_of}
use Rattle.types.specs.Texts.{sounds}

abbrev pub invariant-loop-field : goal.invariant-loop-field
invariant-loop-field g l =
    sounds (tys_of l.field-items) ≡ true → IsPlainFormatter l.initial.f → Underway g.W.Write.write_str_gives l.field-items l.initial.f l.f (drop l.field-index l.field-items)
