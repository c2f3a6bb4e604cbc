use Rattle.std.proofs.Common.{length}
use Rattle.search.proofs.Walked.{Onward}
use Rattle.search.proofs.walks.find.Given as goal

abbrev pub invariant-loop-index : goal.invariant-loop-index
invariant-loop-index g l =
    Onward g.W.Walk.compares (g.W.Walk.sought l.initial.walk) (g.W.Walk.ahead l.initial.walk) l.index (g.W.Walk.sought l.walk) (g.W.Walk.ahead l.walk)

abbrev pub decreases-loop-index : goal.decreases-loop-index
decreases-loop-index g l = length (g.W.Walk.ahead l.walk)
