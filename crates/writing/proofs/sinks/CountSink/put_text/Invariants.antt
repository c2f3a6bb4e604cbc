use Rattle.std.proofs.Common.{◌≡◌, ◌+◌, ◌*◌, ◌≤◌, [], length, drop}
use Rattle.notation.specs.Texts.{inner}
use Rattle.writing.proofs.sinks.CountSink.put_text.Given as goal

abbrev pub invariant-loop-code : goal.invariant-loop-code
invariant-loop-code l = (l.length + length (inner (drop l.code-index l.codes) []) ≡ length (inner l.codes [])) × (l.length ≤ 2 * l.code-index)
