use Rattle.std.proofs.Common.{rules}
use Rattle.std.proofs.lemmas.List.{drop_more, drop_all}
use Rattle.std.proofs.lemmas.Bool.{and_left}
use Rattle.types.proofs.admits.are_printable.Goals as goal

pub returns-then-not-is_printable : goal.returns-then-not-is_printable
returns-then-not-is_printable c =
    let e = drop_more c.args.codes.now c.loop-c.c-index 0 (search rules) in
    search (rules, e, and_left)

pub loop-c-preserved : goal.loop-c-preserved
loop-c-preserved c =
    let e = drop_more c.args.codes.now c.loop-c.c-index 0 (search rules) in
    search (rules, e)

pub returns : goal.returns
returns c =
    let e = drop_all c.loop-c.c-index c.args.codes.now (search rules) in
    search (rules, e)
