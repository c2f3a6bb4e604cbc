use Rattle.std.proofs.Common.{map, vec_items, [], Ok}
use Rattle.sheets.proofs.sheet.read_sheet.Given as goal
use Rattle.sheets.specs.Sheets.{Lines}
use Rattle.sheets.specs.Targets.{target_of, Whole}

abbrev pub invariant-loop-line : goal.invariant-loop-line
invariant-loop-line l = record {
  lines : Lines [] (map (λ x. x.now) l.yielded) (Ok (map target_of (vec_items l.targets)));
  whole : Whole (map target_of (vec_items l.targets));
}
