-- Types written one after the other.
use Rattle.std.proofs.Common.{◌≡◌, ℕ, zero, suc, ◌+◌, ◌≤◌, Bool, true, false, ◌&&◌, if◌then◌else◌, List, [], ◌∷◌, ◌++◌, length, drop, Some, None, Ok, refl, sym, ap, ◌∙◌, subst, arith}
use Rattle.std.proofs.Output.{has_written_append, has_written_of_eq}
use Rattle.std.proofs.lemmas.Bool.{and_parts, leb-true}
use Rattle.std.proofs.lemmas.Fmt.{decimal-digits_of}
use Rattle.std.proofs.lemmas.List.{drop_all}
use Rattle.std.specs.Prelude.{nat_le}
use Rattle.std.specs.declared.fmt.Formatter.{Formatter}
use Rattle.std.specs.Fmt.{DisplaysOnOk, HasWritten, IsPlainFormatter, decimal}
use Rattle.types.specs.declared.value_type.ValueType.{ValueType}
use Rattle.types.specs.Model.{Ty, Tys, tys_of, comps}
use Rattle.types.specs.Texts.{count, type_text, type_texts, sound, sounds}

counted : (all : List ValueType) → count (tys_of all) ≡ length all
counted [] = refl
counted (t ∷ all) = omega (arith, counted all)

one_digit : (n : ℕ) → 2 ≤ n → n ≤ 4 → decimal n ≡ (48 + n) ∷ []
one_digit zero l h = absurd (omega arith)
one_digit (suc zero) l h = absurd (omega arith)
one_digit (suc (suc zero)) l h = decimal-digits_of 2 (omega arith) (omega arith)
one_digit (suc (suc (suc zero))) l h = decimal-digits_of 3 (omega arith) (omega arith)
one_digit (suc (suc (suc (suc zero)))) l h = decimal-digits_of 4 (omega arith) (omega arith)
one_digit (suc (suc (suc (suc (suc n))))) l h = absurd (omega arith)

module _ {W : Type 0} (took : W → List ℕ → W → Type 0) where
  -- once the types that are left are written from g on, all are written from f on
  pub record Underway (all : List ValueType) (f g : Formatter W) (left : List ValueType) : Type 0 where
    pub right : sounds (tys_of left) ≡ true
    pub plain : IsPlainFormatter g
    pub leads : (h : Formatter W) → HasWritten took g (type_texts (tys_of left)) h → HasWritten took f (type_texts (tys_of all)) h

  pub underway_last : (all : List ValueType) (f g : Formatter W) → Underway all f g [] → HasWritten took f (type_texts (tys_of all)) g
  underway_last all f g u = u.leads g (record { wrote = record { parts = []; calls = refl; whole = refl }; plain = u.plain })

  pub compound_shown : (t : Ty) (all : List ValueType) (f g h : Formatter W) (i n : ℕ) → t ≡ comps (tys_of all) → n ≡ length all → (IsPlainFormatter f → HasWritten took f (99 ∷ decimal n) g)
      → (sounds (tys_of all) ≡ true → IsPlainFormatter g → Underway all g h (drop i all)) → length all ≤ i → DisplaysOnOk took f (Ok tt) (if sound t then Some (type_text t) else None) h
  compound_shown t all f g h i n e m w u l = subst (λ t. DisplaysOnOk took f (Ok tt) (if sound t then Some (type_text t) else None) h) (sym e) (go (sound (comps (tys_of all))) refl)
    where
      ts : Tys
      ts = tys_of all

      written : sound (comps ts) ≡ true → IsPlainFormatter f → HasWritten took f (type_text (comps ts)) h
      written s p =
          let a = and_parts (nat_le 2 (count ts) && nat_le (count ts) 4) (sounds ts) s in
          let b = and_parts (nat_le 2 (count ts)) (nat_le (count ts) 4) a.0 in
          let d : decimal n ≡ (48 + count ts) ∷ [] = ap decimal (m ∙ sym (counted all)) ∙ one_digit (count ts) (leb-true 2 (count ts) b.0) (leb-true (count ts) 4 b.1) in
          let v = w p in
          let r = subst (Underway all g h) (drop_all i all l) (u a.1 v.plain) in
          has_written_of_eq took f _ _ h (ap (λ d. (99 ∷ d) ++ type_texts ts) d) (has_written_append took f (99 ∷ decimal n) g (type_texts ts) h v (underway_last all g h r))

      go : (b : Bool) → sound (comps ts) ≡ b → DisplaysOnOk took f (Ok tt) (if b then Some (type_text (comps ts)) else None) h
      go true s = λ p o. written s p
      go false s = tt
