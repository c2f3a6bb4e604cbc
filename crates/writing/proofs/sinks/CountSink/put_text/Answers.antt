use Rattle.std.proofs.Common.{[], length, ap, arith}
use Rattle.notation.specs.Texts.{inner}
use Rattle.std.proofs.lemmas.List.{drop_all}
use Rattle.writing.proofs.Counts.{counted_text}
use Rattle.writing.proofs.sinks.CountSink.put_text.Goals as goal

pub returns : goal.returns
returns c =
    let e = ap (λ s. length (inner s [])) (drop_all c.loop-code.code-index c.args.codes.now (omega arith)) in
    counted_text c.args.self.now c.args.codes.now c.saturating_add-self.result (omega arith) (omega arith)
