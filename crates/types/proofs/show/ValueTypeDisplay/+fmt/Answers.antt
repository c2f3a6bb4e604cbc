use Rattle.std.proofs.Common.{◌≡◌, length, refl, rules}
use Rattle.types.proofs.Shared.{ty_compound}
use Rattle.types.proofs.Shown.{compound_shown}
use Rattle.types.proofs.show.ValueTypeDisplay.+fmt.Goals as goal
use Rattle.types.specs.Model.{ty_of, tys_of, comps}

pub returns-after-loop-field-clause-writes : goal.returns-after-loop-field-clause-writes
returns-after-loop-field-clause-writes g t c =
    let all = c.deref-field-items.result.now in
    let e : ty_of c.args.self.now ≡ comps (tys_of all) = search (rules, ty_compound) in
    let n : c.len.result ≡ length all = search rules in
    let w = c.in_ok-write-in-Compound.ensures.writes in
    compound_shown g.W.Write.write_str_gives (ty_of c.args.self.now) all c.args.f.now c.write.new.self c.loop-field.f c.loop-field.field-index c.len.result e n (λ p. w p refl) c.loop-field.invariant c.loop-field-test.false
