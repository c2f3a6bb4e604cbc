use Rattle.std.proofs.Common.{◌≡◌, ℕ, ◌+◌, ◌-◌, max, subst, arith}
use Rattle.type_notation.proofs.check.+deepest.Goals as goal
use Rattle.type_notation.proofs.Depths.{nests_none, nests_wrong, nests_more}
use Rattle.type_notation.specs.Shapes.{Nests}

pub loop-preserved : goal.loop-preserved
loop-preserved t c =
    let s = c.args.s.now in
    let l = c.loop.invariant in
    let k = c.in-Ok.ensures in
    let inner = c.deepest-inner.ensures in
    let nests = subst (λ (n : ℕ). Nests s c.in-Ok.middle n c.deepest-inner.result.depth c.deepest-inner.result.end) c.arity.ensures inner.nests in
    record {
      low = omega (arith, l.low, k.0, inner.bound, c.max.ensures);
      high = λ h. inner.high k.1;
      goes = λ deep last others.
          let more = nests_more s c.loop.nesting.end (c.args.count - c.loop.counter) (c.args.count - (c.loop.counter + 1)) c.in-Ok.shape c.in-Ok.middle c.deepest-inner.result.end c.deepest-inner.result.depth last deep k.2 nests (omega (arith, c.loop-test.true)) others in
          let same : max c.loop.nesting.depth (max (c.deepest-inner.result.depth + 1) deep) ≡ max c.max.result deep = omega (arith, c.max.ensures) in
          subst (λ (d : ℕ). Nests s c.args.at c.args.count d last) same (l.goes (max (c.deepest-inner.result.depth + 1) deep) last more);
    }

pub returns-in_default-clause-nests : goal.returns-in_default-clause-nests
returns-in_default-clause-nests t c =
    let s = c.args.s.now in
    let e = c.loop.nesting.end in
    let wrong = nests_wrong s e (c.args.count - c.loop.counter) _ (λ z. omega (arith, c.loop-test.true, z)) c.in_default.ensures.2 in
    let same : max c.loop.nesting.depth 0 ≡ c.loop.nesting.depth = omega arith in
    subst (λ (d : ℕ). Nests s c.args.at c.args.count d e) same (c.loop.invariant.goes 0 e wrong)

pub returns-clause-nests : goal.returns-clause-nests
returns-clause-nests t c =
    let s = c.args.s.now in
    let e = c.loop.nesting.end in
    let same : max c.loop.nesting.depth 0 ≡ c.loop.nesting.depth = omega arith in
    subst (λ (d : ℕ). Nests s c.args.at c.args.count d e) same (c.loop.invariant.goes 0 e (nests_none s e (c.args.count - c.loop.counter) (omega (arith, c.loop-test.false))))
