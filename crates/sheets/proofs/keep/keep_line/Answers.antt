use Rattle.std.proofs.Common.{◌≡◌, ◌<◌, map, length, vec_items, Some, sym, ap, ◌∙◌, subst, rules}
use Rattle.search.specs.Search.{rank}
use Rattle.sheets.proofs.keep.keep_line.Goals as goal
use Rattle.sheets.proofs.Placed.{placed_inserted, line_done}
use Rattle.sheets.specs.Lines.{three, split, fields_of}
use Rattle.sheets.specs.Targets.{target_of, by_code, names, among, Named, TypeIs}
use Rattle.std.specs.Option.{option_map}
use Rattle.types.specs.Model.{Ty}
use Rattle.values.specs.Means.{val}

pub returns : goal.returns
returns c =
    let items = vec_items c.args.targets.now in
    let fields = c.in_ok-fields.fields in
    let parts : three (split 9 c.args.line.now) ≡ Some (fields_of fields) = search rules in
    let named : Named fields.name.now = search rules in
    let typed : (y : Ty) × TypeIs y fields.written_type.now = search rules in
    let p = c.in_ok-place.ensures in
    let same = c.as_slice.ensures.value in
    let y = typed.0 in
    let g = c.in_ok-content.ensures y typed.1 in
    let new = ap (λ r. among fields.name.now (map target_of r)) (sym same) ∙ p.0 in
    let room = subst (λ r. length (map target_of r) < 16) same p.1 in
    let at = placed_inserted _ items c.in_ok-place.place (p.2 ∙ ap (λ r. rank by_code fields.name.now (names (map target_of r))) same) in
    line_done (map target_of items) c.args.line.now (fields_of fields) y (option_map val c.in_ok-content.content) _ parts c.requires (record { named = named; typed = typed.1; new = new; room = room }) g.0 g.1 (ap (map target_of) c.in_ok-insert.ensures.items ∙ at)
