use Rattle.std.proofs.Common.{◌≡◌, map, take, vec_items}
use Rattle.sheets.proofs.write.write_sheet.Given as goal
use Rattle.sheets.specs.Targets.{target_of, sheet_text}

abbrev pub invariant-loop-target : goal.invariant-loop-target
invariant-loop-target l = vec_items l.out ≡ sheet_text (map target_of (take l.target-index l.targets))
