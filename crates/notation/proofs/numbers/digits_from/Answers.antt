use Rattle.std.proofs.Common.{inl, inr, refl, sym, arith, rules}
use Rattle.std.proofs.lemmas.Int.{ints}
use Rattle.notation.proofs.Counting.{going_starts, going_keeps, going_loses, digit_next}
use Rattle.notation.proofs.numbers.digits_from.Goals as goal
use Rattle.notation.proofs.numbers.digits_from.Goals.{then-fits+then-value, else-fits, else-fits-via-then-fits+else-value, else-fits-via-else-fits}

pub loop-code-init : goal.loop-code-init
loop-code-init c = search (rules, going_starts)

pub loop-code-preserved : goal.loop-code-preserved
loop-code-preserved c =
    let i = c.loop-code.invariant in
    let d = c.if-not-is_ascii_digit.ensures in
    let n = rw (← i.0) at (digit_next c.args.s.now c.args.at c.loop-code.code-index _ (omega arith) refl (sym d.value)) in (
      omega (arith, i.0),
      elim c.if-fits.branch [
        | then-fits+then-value w ↦ simp (w.value-is, w.fits-is) (going_keeps _ _ _ _ _ _ _ _ i.1 n.0 n.1 _ (omega (arith, ints)) w.if-fits.true (omega (arith, ints)))
        | else-fits w ↦ simp (w.value-is, w.fits-is) (going_loses _ _ _ _ _ _ _ _ i.1 n.0 n.1
            (elim w.else-fits.branch [ else-fits-via-then-fits+else-value v ↦ inr (omega (arith, ints)) | else-fits-via-else-fits v ↦ inl v.if-fits.false ]))
      ],
    )
