use Rattle.std.proofs.Common.{◌+◌, ◌≤◌, ◌∙◌, [], length, arith, rules}
use Rattle.values.specs.Means.{val}
use Rattle.writing.proofs.Areas.{filled_all}
use Rattle.writing.proofs.displays.write_display.Goals as goal
use Rattle.writing.specs.Displays.{written}

pub returns : goal.returns
returns c =
    let room : c.args.at + length (written (val c.args.value.now)) ≤ length c.args.out.now = omega (arith, c.display_length-length.ensures.value) in
    let e = c.write_value.ensures [] ∙ filled_all _ (written (val c.args.value.now)) room in
    search (rules, e)
