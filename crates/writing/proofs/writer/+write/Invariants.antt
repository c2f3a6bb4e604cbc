use Rattle.std.proofs.Common.{◌≡◌, List, ℕ, nat_eq, true, drop}
use Rattle.std.specs.List.{fold}
use Rattle.values.specs.Means.{vals, pairs}
use Rattle.writing.specs.Displays.{shown_items, shown_entries}
use Rattle.writing.proofs.writer.+write.Given as goal

abbrev pub invariant-write_entries-loop-index : goal.invariant-write_entries-loop-index
invariant-write_entries-loop-index g l =
    (rest : List ℕ) → fold g.S.Sink.after l.sink (shown_entries (pairs (drop l.index l.entries)) (nat_eq l.index 0) rest) ≡ fold g.S.Sink.after l.initial.sink (shown_entries (pairs l.entries) true rest)

abbrev pub invariant-write_items-loop-index : goal.invariant-write_items-loop-index
invariant-write_items-loop-index g l =
    (rest : List ℕ) → fold g.S.Sink.after l.sink (shown_items (vals (drop l.index l.row)) (nat_eq l.index 0) l.sep l.close rest) ≡ fold g.S.Sink.after l.initial.sink (shown_items (vals l.row) true l.sep l.close rest)
