use Rattle.std.proofs.Common.{◌≡◌, drop, length}
use Rattle.types.proofs.admits.+formed.Given as goal
use Rattle.types.specs.Model.{ty_of, tys_of}
use Rattle.types.specs.Types.{each_formed, all_formed, pairs_formed}
use Rattle.values.specs.Means.{vals, pairs}

-- the items not yet visited decide
abbrev pub invariant-are_all_formed-loop-value : goal.invariant-are_all_formed-loop-value
invariant-are_all_formed-loop-value l = all_formed (vals (drop l.value-index l.row)) (ty_of l.item) ≡ all_formed (vals l.row) (ty_of l.item)

abbrev pub invariant-are_pairs_formed-loop-entry : goal.invariant-are_pairs_formed-loop-entry
invariant-are_pairs_formed-loop-entry l =
    pairs_formed (pairs (drop l.entry-index l.entries)) (ty_of l.sides.key) (ty_of l.sides.associate) ≡ pairs_formed (pairs l.entries) (ty_of l.sides.key) (ty_of l.sides.associate)

abbrev pub invariant-is_each_formed-loop-value : goal.invariant-is_each_formed-loop-value
invariant-is_each_formed-loop-value l = record {
  same : each_formed (vals l.value-iterator.a.rest.now) (tys_of l.value-iterator.b.rest.now) ≡ each_formed (vals l.row) (tys_of l.fields);
  long : length l.value-iterator.a.rest.now ≡ length l.value-iterator.b.rest.now;
}
