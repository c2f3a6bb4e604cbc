use Rattle.std.proofs.Common.{ℕ, ◌+◌, ◌-◌, ◌*◌, ◌≤◌, List, ◌++◌, length}
use Rattle.type_notation.proofs.build.+type_at.Given as goal
use Rattle.type_notation.specs.Shapes.{BuildsAll}
use Rattle.types.specs.declared.value_type.ValueType.{ValueType}
use Rattle.types.specs.Model.{tys_of}

-- a type takes at least a byte
abbrev pub decreases-fields_at : goal.decreases-fields_at
decreases-fields_at l = 2 * (length l.s.now - l.at) + 1

abbrev pub decreases-type_at : goal.decreases-type_at
decreases-type_at l = 2 * (length l.s.now - l.at)

-- whatever the fields still to come are, they go on from those that were read
abbrev pub invariant-fields_at-loop : goal.invariant-fields_at-loop
invariant-fields_at-loop l = record {
  low : l.at ≤ l.end;
  goes : (ts : List ValueType) (last : ℕ) → BuildsAll l.s l.end (l.count - l.counter) (tys_of ts) last → BuildsAll l.s l.at l.count (tys_of (l.fields.items ++ ts)) last;
}
