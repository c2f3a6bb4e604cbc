use Rattle.std.proofs.Common.{◌≡◌, ◌++◌, ◌∷◌, [], rules}
use Rattle.notation.proofs.Quoting.{reading_more, unquotes}
use Rattle.notation.proofs.texts.unquote.Goals as goal
use Rattle.notation.proofs.texts.unquote.Goals.{in_default, in_default-2}

pub loop-code-preserved : goal.loop-code-preserved
loop-code-preserved c =
    let e : c.push.new.self.items ≡ c.loop-code.codes.items ++ (c.in-Ok-Some.code ∷ []) = search rules in
    rw e (reading_more _ _ _ _ _ _ c.loop-code.invariant (rw c.in-Ok-Some.field-0-is at c.in-Ok-Some.ensures))

pub returns : goal.returns
returns c = unquotes _ _ _ _ _ c.loop-code.invariant c.piece_at.ensures (elim c.match-piece_at.branch [
  | in_default w ↦ λ q e. cc
  | in_default-2 w ↦ λ q e. cc
])
