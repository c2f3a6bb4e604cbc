use Rattle.std.proofs.Common.{◌≡◌, ◌+◌, ◌-◌, ◌/◌, ◌%◌, ◌++◌, [], ◌∷◌, drop, set, sym, ap, ◌∙◌, append-nil, append_assoc, arith, length-set}
use Rattle.notation.specs.Numbers.{nat}
use Rattle.std.proofs.lemmas.List.{drop-set, drop_all}
use Rattle.writing.proofs.Naturals.{nat_last, nat_front, nat_long, nat_ten}
use Rattle.writing.proofs.writer.gather_digits.Goals as goal

pub loop-front-init : goal.loop-front-init
loop-front-init c = record {
  room = nat_ten c.args.n (omega arith);
  within = omega arith;
  long = omega arith;
  digits = sym (ap (λ s. nat c.args.n ++ s) (drop_all 11 c.args.buffer.now (omega arith)) ∙ append-nil (nat c.args.n));
}

pub loop-front-preserved : goal.loop-front-preserved
loop-front-preserved c =
    let i = c.loop-front.invariant in
    let b = c.loop-front.buffer in
    let k = c.loop-front.start in
    let d = 48 + c.loop-front.front % 10 in
    let e = nat_long c.loop-front.front c.loop-front-test.true in
    let back : k - 1 + 1 ≡ k = omega (arith, i.room, e) in
    let l = length-set b k d in
    let s = ap (λ n. drop n (set b k d)) back ∙ drop-set b k d (omega (arith, i.long, i.within)) in
    record {
      room = omega (arith, i.room, e);
      within = omega (arith, i.within);
      long = l ∙ i.long;
      digits = i.digits ∙ ap (λ x. x ++ drop (k + 1) b) (nat_front c.loop-front.front c.loop-front-test.true) ∙ append_assoc (nat (c.loop-front.front / 10)) (d ∷ []) (drop (k + 1) b)
          ∙ ap (λ x. nat (c.loop-front.front / 10) ++ x) (sym s);
    }

pub returns-clause-digits : goal.returns-clause-digits
returns-clause-digits c =
    let i = c.loop-front.invariant in
    drop-set c.loop-front.buffer c.loop-front.start (48 + c.loop-front.front) (omega (arith, i.long, i.within))
    ∙ sym (i.digits ∙ ap (λ s. s ++ drop (c.loop-front.start + 1) c.loop-front.buffer) (nat_last c.loop-front.front c.loop-front-test.false))
