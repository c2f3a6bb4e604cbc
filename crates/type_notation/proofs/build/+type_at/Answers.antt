use Rattle.std.proofs.Common.{◌≡◌, ◌+◌, ◌-◌, [], ◌∷◌, sym, subst, append_assoc, append-nil, arith, rules}
use Rattle.type_notation.proofs.build.+type_at.Goals as goal
use Rattle.type_notation.proofs.Built.{builds_wrong, builds_number, builds_text, builds_compound, builds_list, builds_table, builds_end, builds_also}
use Rattle.types.proofs.Shared.{ty_compound}
use Rattle.types.specs.declared.value_type.ValueType.{Compound}
use Rattle.types.specs.Model.{Ty, ty_of, tys_of, comps, lists, tables}
use Rattle.type_notation.specs.Shapes.{Builds}

pub type_at-returns-in-Err : goal.type_at-returns-in-Err
type_at-returns-in-Err t c = let e = c.in-Err.ensures in (e.0, builds_wrong c.args.s.now c.args.at c.in-Err.place _ _ e.2)

pub type_at-returns-in-Number : goal.type_at-returns-in-Number
type_at-returns-in-Number t c =
    let k = c.in-Ok.ensures in
    (omega (arith, k.0), builds_number c.args.s.now c.args.at c.in-Ok.middle c.in-Ok.shape k.2 c.in-Number.is)

pub type_at-returns-in-Text : goal.type_at-returns-in-Text
type_at-returns-in-Text t c =
    let k = c.in-Ok.ensures in
    (omega (arith, k.0), builds_text c.args.s.now c.args.at c.in-Ok.middle c.in-Ok.shape k.2 c.in-Text.is)

pub type_at-returns-in_ok-new-in-Compound : goal.type_at-returns-in_ok-new-in-Compound
type_at-returns-in_ok-new-in-Compound t c =
    let k = c.in-Ok.ensures in
    let f = c.in_ok-fields-in-Compound.ensures in
    let e : ty_of (Compound c.in_ok-new-in-Compound.field-0) ≡ comps (tys_of c.in_ok-fields-in-Compound.fields.items) = search (rules, ty_compound) in (
      omega (arith, k.0, f.0),
      subst (λ (x : Ty). Builds c.args.s.now c.args.at x c.in_ok-fields-in-Compound.end) (sym e)
          (builds_compound c.args.s.now c.args.at c.in-Ok.middle c.in-Ok.shape k.2 c.in-Compound.count _ _ c.in-Compound.is f.1),
    )

pub type_at-returns-in_ok-new-in-List : goal.type_at-returns-in_ok-new-in-List
type_at-returns-in_ok-new-in-List t c =
    let k = c.in-Ok.ensures in
    let i = c.in_ok-item-in-List.ensures in
    let e : lists (ty_of c.in_ok-new-in-List.field-0.value) ≡ lists (ty_of c.in_ok-item-in-List.item) = search rules in (
      omega (arith, k.0, i.0),
      subst (λ (x : Ty). Builds c.args.s.now c.args.at x c.in_ok-item-in-List.end) (sym e)
          (builds_list c.args.s.now c.args.at c.in-Ok.middle c.in-Ok.shape k.2 _ _ c.in-List.is i.1),
    )

pub type_at-returns-in_ok-new-in-Table : goal.type_at-returns-in_ok-new-in-Table
type_at-returns-in_ok-new-in-Table t c =
    let k = c.in-Ok.ensures in
    let i = c.in_ok-key-in-Table.ensures in
    let j = c.in_ok-associate-in-Table.ensures in
    let e : tables (ty_of c.in_ok-new-in-Table.field-0.value.key) (ty_of c.in_ok-new-in-Table.field-0.value.associate) ≡ tables (ty_of c.in_ok-key-in-Table.key) (ty_of c.in_ok-associate-in-Table.associate) = search rules in (
      omega (arith, k.0, i.0, j.0),
      subst (λ (x : Ty). Builds c.args.s.now c.args.at x c.in_ok-associate-in-Table.end) (sym e)
          (builds_table c.args.s.now c.args.at c.in-Ok.middle c.in-Ok.shape k.2 _ _ c.in_ok-key-in-Table.next _ c.in-Table.is i.1 j.1),
    )

pub fields_at-loop-preserved : goal.fields_at-loop-preserved
fields_at-loop-preserved t c =
    let h = c.in_ok-field.ensures in
    record {
      low = omega (arith, h.0, c.loop.invariant.low);
      goes = λ ts last b.
          rw (c.in_ok-push.ensures.items, append_assoc)
          (c.loop.invariant.goes (c.in_ok-field.field ∷ ts) last (builds_also c.args.s.now c.loop.end (c.args.count - c.loop.counter) (c.args.count - (c.loop.counter + 1)) c.in_ok-field.next last (ty_of c.in_ok-field.field) (tys_of ts) (omega arith) h.1 b));
    }

pub fields_at-returns : goal.fields_at-returns
fields_at-returns t c =
    (c.loop.invariant.low, rw append-nil at (c.loop.invariant.goes [] c.loop.end (builds_end c.args.s.now c.loop.end (c.args.count - c.loop.counter) (omega arith))))
