-- What is made of texts is a text.
use Rattle.std.proofs.Common.{◌≡◌, ℕ, zero, suc, ◌-◌, ◌≤◌, Bool, true, false, cond, leb, List, [], ◌∷◌, ◌++◌, take, drop, ℤ, nat_abs, Some, None, Option, IfSome, Result, IfOk, sym, refl, subst, arith, length-drop, length-take}
use Rattle.scalars.specs.Texts.{suffix, prefix, KeepsBoth, KeepsPart}
use Rattle.std.proofs.lemmas.Bool.{and_parts, and_from, le-leb, leb-true}
use Rattle.std.proofs.lemmas.Option.{none-some, same_Some}
use Rattle.std.proofs.lemmas.Result.{IfOk-weaker}
use Rattle.std.specs.Option.{option_map}
use Rattle.types.specs.Model.{texts}
use Rattle.types.specs.Types.{printable, printables, Of}
use Rattle.values.specs.declared.value.Value.{Value}
use Rattle.values.specs.Means.{val}
use Rattle.value_model.specs.Model.{text}
use Rattle.value_model.specs.Sizes.{size}

of_text : (s : List ℕ) → size (text s) ≤ 256 → printables s ≡ true → Of texts (text s)
of_text s l p = and_from (leb (size (text s)) 256) (printables s) (le-leb (size (text s)) 256 l) p

text_of : (s : List ℕ) → Of texts (text s) → (size (text s) ≤ 256) × (printables s ≡ true)
text_of s h =
    let p = and_parts (leb (size (text s)) 256) (printables s) h in
    (leb-true (size (text s)) 256 p.0, p.1)

append_printables : (s t : List ℕ) → printables s ≡ true → printables t ≡ true → printables (s ++ t) ≡ true
append_printables [] t h k = k
append_printables (c ∷ s) t h k =
    let p = and_parts (printable c) (printables s) h in
    and_from (printable c) (printables (s ++ t)) p.0 (append_printables s t p.1 k)

drop_printables : (n : ℕ) (s : List ℕ) → printables s ≡ true → printables (drop n s) ≡ true
drop_printables zero s h = h
drop_printables (suc n) [] h = h
drop_printables (suc n) (c ∷ s) h = drop_printables n s (and_parts (printable c) (printables s) h).1

take_printables : (n : ℕ) (s : List ℕ) → printables s ≡ true → printables (take n s) ≡ true
take_printables zero s h = refl
take_printables (suc n) [] h = h
take_printables (suc n) (c ∷ s) h =
    let p = and_parts (printable c) (printables s) h in
    and_from (printable c) (printables (take n s)) p.0 (take_printables n s p.1)

-- whatever the heap gives
module _ {E : Type 0} where
  pub append_kept : (s t : List ℕ) (r : Result Value E) → IfOk r (λ v. val v ≡ text (s ++ t)) → IfOk r (λ v. KeepsBoth s t (val v))
  append_kept s t r = IfOk-weaker r _ _ (λ v e.
      subst (KeepsBoth s t) (sym e) (λ h k l. of_text (s ++ t) l (append_printables s t (text_of s h).1 (text_of t k).1)))

  part_kept : (s t : List ℕ) (b : Bool) (r : Result (Option Value) E) → KeepsPart s (text t) → IfOk r (λ o. option_map val o ≡ option_map text (cond b (Some t) None)) → IfOk r (λ o. IfSome o (λ v. KeepsPart s (val v)))
  part_kept s t b r h = IfOk-weaker r _ _ (go b)
    where
      go : (b : Bool) (o : Option Value) → option_map val o ≡ option_map text (cond b (Some t) None) → IfSome o (λ v. KeepsPart s (val v))
      go b None e = tt
      go true (Some v) e = subst (KeepsPart s) (sym (same_Some (val v) (text t) e)) h
      go false (Some v) e = absurd (none-some (val v) (sym e))

  pub suffix_kept : (s : List ℕ) (first : ℤ) (r : Result (Option Value) E) → IfOk r (λ o. option_map val o ≡ option_map text (suffix s first)) → IfOk r (λ o. IfSome o (λ v. KeepsPart s (val v)))
  suffix_kept s first r = part_kept s (drop n s) _ r (λ h. let p = text_of s h in of_text (drop n s) (omega (arith, length-drop n s)) (drop_printables n s p.1))
    where
      n : ℕ
      n = nat_abs first - 1

  pub prefix_kept : (s : List ℕ) (count : ℤ) (r : Result (Option Value) E) → IfOk r (λ o. option_map val o ≡ option_map text (prefix s count)) → IfOk r (λ o. IfSome o (λ v. KeepsPart s (val v)))
  prefix_kept s count r = part_kept s (take (nat_abs count) s) _ r (λ h.
      let p = text_of s h in
      of_text (take (nat_abs count) s) (omega (arith, length-take (nat_abs count) s)) (take_printables (nat_abs count) s p.1))
