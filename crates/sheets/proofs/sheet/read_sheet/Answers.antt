use Rattle.std.proofs.Common.{rules, map, vec_items, ◌==◌, [], Ok, subst, tests}
use Rattle.sheets.proofs.Pieces.{filled, lines_more, lines_end, lines_stop}
use Rattle.sheets.proofs.sheet.read_sheet.Goals as goal
use Rattle.sheets.specs.Lines.{split}
use Rattle.sheets.specs.Sheets.{Lines}
use Rattle.sheets.specs.Targets.{target_of}
use Rattle.std.proofs.lemmas.Iterator.Consumers.{YieldsList-at}
use Rattle.std.proofs.lemmas.Iterator.Search.{YieldsList-from_take_while}
use Rattle.std.proofs.lemmas.Iterator.Splits.{YieldsList-from_slice_split}
use Rattle.std.proofs.lemmas.List.{map-append}
use Rattle.std.proofs.lemmas.Result.{err_from_is_err_and}

pub loop-line-preserved : goal.loop-line-preserved
loop-line-preserved c =
    let ts = map target_of (vec_items c.loop-line.targets) in
    let k = c.in_ok-keep_line.ensures in
    record { lines = rw map-append (lines_more [] ts _ (map (λ x. x.now) c.loop-line.yielded) c.in-Some.line.now c.loop-line.invariant.lines k.0); whole = k.1 }

pub returns-in_err-keep_line : goal.returns-in_err-keep_line
returns-in_err-keep_line c =
    let p = c.split in
    let w = c.take_while-line-items in
    let l = lines_stop {s = c.into_iter-line-iterator.result} (split 10 c.args.input.now) (YieldsList-at c.into_iter-line-iterator.ensures.into_iter_gives (YieldsList-from_take_while _ filled (YieldsList-at w.ensures.source (YieldsList-from_slice_split _ (λ b. b == 10) _ p.ensures.rest p.ensures.done p.ensures.closure (λ x b q k. search (rules, tests)))) w.ensures.closure w.ensures.done (λ x b q k. search (rules, tests)))) c.loop-line.yielded c.loop-line.line-iterator c.next.new.self c.loop-line.yielded_by c.in-Some.line (map target_of (vec_items c.loop-line.targets)) c.in_err-keep_line.field-0.0 c.in-Some.ensures.steps c.loop-line.invariant.lines c.in_err-keep_line.ensures.0 in
    let q = err_from_is_err_and c.from_residual.result c.from_residual.ensures.1 in
    rw (q.1, q.2) l

pub returns : goal.returns
returns c =
    let p = c.split in
    let w = c.take_while-line-items in
    let l = lines_end {s = c.into_iter-line-iterator.result} (split 10 c.args.input.now) (YieldsList-at c.into_iter-line-iterator.ensures.into_iter_gives (YieldsList-from_take_while _ filled (YieldsList-at w.ensures.source (YieldsList-from_slice_split _ (λ b. b == 10) _ p.ensures.rest p.ensures.done p.ensures.closure (λ x b q k. search (rules, tests)))) w.ensures.closure w.ensures.done (λ x b q k. search (rules, tests)))) c.loop-line.yielded c.loop-line.line-iterator c.next.new.self c.loop-line.yielded_by c.in-None.ensures.steps in
    (subst (λ ls. Lines [] ls (Ok (map target_of (vec_items c.loop-line.targets)))) l c.loop-line.invariant.lines, c.loop-line.invariant.whole)
