use Rattle.std.proofs.Common.{rules, ◌==◌, [], ◌∷◌, refl, tests}
use Rattle.sheets.proofs.Pieces.{few_fields, three_fields}
use Rattle.sheets.proofs.fields.read_fields.Goals as goal
use Rattle.std.proofs.lemmas.Iterator.Splits.{YieldsList-from_slice_split}

pub returns-in_err-next-2 : goal.returns-in_err-next-2
returns-in_err-next-2 c =
    let p = c.split-parts in
    few_fields {s = p.result} (YieldsList-from_slice_split _ (λ b. b == 9) _ p.ensures.rest p.ensures.done p.ensures.closure (λ x b q k. search (rules, tests))) _ _ (c.in_ok-next.field-0 ∷ []) _ (c.next.new.self, c.in_ok-next.ensures.steps, refl) c.in_err-next-2.ensures.steps refl c.from_residual-in_err-next-2.ensures

pub returns-in_err-next-3 : goal.returns-in_err-next-3
returns-in_err-next-3 c =
    let p = c.split-parts in
    few_fields {s = p.result} (YieldsList-from_slice_split _ (λ b. b == 9) _ p.ensures.rest p.ensures.done p.ensures.closure (λ x b q k. search (rules, tests))) _ _ (c.in_ok-next.field-0 ∷ (c.in_ok-next-2.field-0 ∷ [])) _ (c.next.new.self, c.in_ok-next.ensures.steps, (c.next-2.new.self, c.in_ok-next-2.ensures.steps, refl)) c.in_err-next-3.ensures.steps refl c.from_residual-in_err-next-3.ensures

pub returns : goal.returns
returns c =
    let p = c.split-parts in
    let h = three_fields {s = p.result} (YieldsList-from_slice_split _ (λ b. b == 9) _ p.ensures.rest p.ensures.done p.ensures.closure (λ x b q k. search (rules, tests))) _ _ (record { name = c.in_ok-next.field-0; written_type = c.in_ok-next-2.field-0; display = c.in_ok-next-3.field-0 }) c.is_none.result c.next-4.result (c.next.new.self, c.in_ok-next.ensures.steps, (c.next-2.new.self, c.in_ok-next-2.ensures.steps, (c.next-3.new.self, c.in_ok-next-3.ensures.steps, refl))) c.next-4.ensures.steps c.is_none.ensures in
    cc
