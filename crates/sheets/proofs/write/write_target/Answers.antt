use Rattle.std.proofs.Common.{◌≡◌, ◌-◌, ◌^◌, ◌<◌, ◌++◌, ℕ, List, [], ◌∷◌, append_assoc, length, IfSome, vec_items, ap, ◌∙◌, sym, subst, arith, append-nil}
use Rattle.sheets.proofs.write.write_target.Goals as goal
use Rattle.sheets.proofs.write.write_target.Goals.{in-Some+in_ok-display+in_ok-extend_from_slice-3, in_default}
use Rattle.sheets.specs.Targets.{content_text}
use Rattle.std.specs.Option.{option_map}
use Rattle.types.specs.Types.{Of}
use Rattle.values.specs.Means.{val}
use Rattle.writing.proofs.Bounds.{display_short}
use Rattle.writing.specs.Displays.{written}

text_joined : (o n t c : List ℕ) → (((((o ++ n) ++ 9 ∷ []) ++ t) ++ 9 ∷ []) ++ c) ++ 10 ∷ [] ≡ o ++ (((((n ++ 9 ∷ []) ++ t) ++ 9 ∷ []) ++ c) ++ 10 ∷ [])
text_joined o n t c = simp append_assoc

pub returns : goal.returns
returns c =
    let t = c.args.target.now in
    let o = vec_items c.args.out.now in
    let i = vec_items c.push-2.new.self in
    let m : vec_items c.match-target.out ≡ i ++ content_text (option_map val t.content) =
    elim c.match-target.branch [
      | in-Some+in_ok-display+in_ok-extend_from_slice-3 w ↦ (
          let v = val w.in-Some.value in
          let s = display_short c.requires.type_of v (subst (λ o. IfSome (option_map val o) (Of c.requires.type_of)) w.in-Some.is c.requires.holds) in
          let l : length (written v) < 2 ^ 64 - 1 = omega arith in
          let d = w.as_slice.ensures.value ∙ w.in_ok-display.ensures l in
          rw w.in-Some.is (ap vec_items w.out-is ∙ w.in_ok-extend_from_slice-3.ensures.items ∙ ap (λ r. i ++ r) d))
      | in_default w ↦ rw w.in_default.is (ap vec_items w.out-is ∙ sym (append-nil i))
    ] in
    let a = c.in_ok-extend_from_slice.ensures.items in
    let b = c.in_ok-push.ensures.items in
    let d = c.in_ok-extend_from_slice-2.ensures.items in
    let e = c.in_ok-push-2.ensures.items in
    let g = c.in_ok-push-3.ensures.items in
    let j = text_joined o t.name.now t.written_type.now (content_text (option_map val t.content)) in
    cc
