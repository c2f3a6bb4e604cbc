use Rattle.std.proofs.Common.{arith}
use Rattle.sheets.proofs.Named.{place_tells}
use Rattle.sheets.proofs.names.free_place.Goals as goal
use Rattle.sheets.specs.Targets.{target_of}
use Rattle.std.proofs.lemmas.List.{length-map}

pub returns-in-Ok : goal.returns-in-Ok
returns-in-Ok c = (place_tells c.args.targets.now c.args.name.now _ _ _ c.requires c.in-Ok.ensures.place).0

pub returns-in-Err : goal.returns-in-Err
returns-in-Err c =
    let n = length-map c.args.targets.now target_of in
    ((place_tells c.args.targets.now c.args.name.now _ _ _ c.requires c.in-Err.ensures.place).0, omega (arith, n, c.if-targets-ge-TARGET_LIMIT.true))

pub returns-in-Err-2 : goal.returns-in-Err-2
returns-in-Err-2 c =
    let n = length-map c.args.targets.now target_of in
    let p = place_tells c.args.targets.now c.args.name.now _ _ _ c.requires c.in-Err.ensures.place in
    (p.0, omega (arith, n, c.if-targets-ge-TARGET_LIMIT.false), p.1, omega (arith, n, c.in-Err.ensures.within))
