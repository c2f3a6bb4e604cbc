use Rattle.std.proofs.Common.{ap, ◌∙◌, [], arith}
use Rattle.values.specs.Means.{val}
use Rattle.writing.proofs.Bounds.{display_short}
use Rattle.writing.proofs.Counts.{counted_all}
use Rattle.writing.proofs.displays.display_length.Goals as goal
use Rattle.writing.specs.Displays.{written}

pub returns : goal.returns
returns c =
    let e = ap (λ s. s.bytes) (c.write_value.ensures []) ∙ counted_all _ (written (val c.args.value.now)) (omega arith) in
    record {
      value = omega arith;
      short = λ t h. let b = display_short t (val c.args.value.now) h in omega arith;
    }
