use Rattle.std.proofs.Common.{map, sym, ap, ◌∙◌, subst, arith}
use Rattle.sheets.proofs.write.write_sheet.Goals as goal
use Rattle.sheets.specs.Targets.{target_of, Sound}
use Rattle.std.proofs.lemmas.List.{length-map}
use Rattle.std.proofs.lemmas.List.Elements.{All-from_recursion}
use Rattle.std.proofs.Math.ListN.{get_or-map}

pub write_target-requires : goal.write_target-requires
write_target-requires c =
    let ts = c.args.targets.now in
    let i = c.loop-target.target-index in
    let t = c.target-item.result in
    let n = length-map ts target_of in
    subst Sound (get_or-map target_of ts i t ∙ ap target_of (sym c.target-item.is)) (All-from_recursion Sound (map target_of ts) c.requires i (target_of t) (omega arith))
