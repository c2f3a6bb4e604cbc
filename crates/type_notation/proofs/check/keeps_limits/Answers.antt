use Rattle.std.proofs.Common.{◌&&◌, leb, length, sym, ap, ◌∙◌, arith}
use Rattle.std.proofs.lemmas.Bool.{le-leb}
use Rattle.type_notation.proofs.check.keeps_limits.Goals as goal
use Rattle.type_notation.proofs.Depths.{nests_one}
use Rattle.type_notation.specs.TypeTexts.{depth}
use Rattle.types.specs.Texts.{type_text}

pub returns-then-s-le-LENGTH_LIMIT : goal.returns-then-s-le-LENGTH_LIMIT
returns-then-s-le-LENGTH_LIMIT c t f =
    let l = ap length f.1 in
    let a = le-leb (length (type_text t)) 16 (omega arith) in
    let e = nests_one c.args.s.now _ _ c.deepest.ensures.nests t f in
    ap (λ n. leb n 4) e ∙ ap (λ b. b && leb (depth t) 4) (sym a)
