use Rattle.std.proofs.Common.{◌≡◌, ℕ, List, drop}
use Rattle.notation.specs.Texts.{inner}
use Rattle.std.specs.List.{fold}
use Rattle.writing.specs.declared.sinks.Area.{Area}
use Rattle.writing.specs.Sinks.{filled, holding}
use Rattle.writing.proofs.sinks.fill_text.Given as goal

abbrev pub invariant-loop-code : goal.invariant-loop-code
invariant-loop-code l =
    (a : Area) (rest : List ℕ) → fold filled (holding a l.area l.next) (inner (drop l.code-index l.codes) rest) ≡ fold filled (holding a l.initial.area l.initial.next) (inner l.codes rest)
