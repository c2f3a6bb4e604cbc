use Rattle.std.proofs.Common.{◌≡◌, ◌-◌, ◌^◌, min, take}
use Rattle.std.specs.List.{sum_by}
use Rattle.values.proofs.sizes.size_of_row.Given as goal

abbrev pub invariant-loop-item : goal.invariant-loop-item
invariant-loop-item g l = l.total ≡ min (sum_by g.T.HasSize.size_of (take l.item-index l.row)) (2 ^ 64 - 1)
