use Rattle.std.proofs.Common.{[], ◌∷◌}
use Rattle.displays.proofs.next.pass_entry.Goals as goal
use Rattle.displays.proofs.Passing.{past_mark}

pub returns : goal.returns
returns c =
    let e = c.in_ok-expect.ensures in
    let p = past_mark _ _ _ (32 ∷ []) _ e in
    (p.0, p.1, e.2)
