use Rattle.std.proofs.Common.{◌≡◌, map, take}
use Rattle.tables.proofs.reads.keys.Given as goal
use Rattle.values.specs.Means.{val}

abbrev pub invariant-loop-entry : goal.invariant-loop-entry
invariant-loop-entry l = map val l.row.items ≡ map (λ e. val e.key) (take l.entry-index l.entries)
