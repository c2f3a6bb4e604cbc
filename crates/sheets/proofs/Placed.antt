-- A new target at the place of its name.
use Rattle.std.proofs.Common.{◌≡◌, ℕ, ◌+◌, ◌<◌, Bool, true, false, cond, ◌||◌, List, [], ◌∷◌, map, length, IfSome, Some, Ok, Option, Ordering, Less, Equal, Greater, sym, refl, ap, ◌∙◌, subst, add-one, arith}
use Rattle.search.specs.Search.{rank}
use Rattle.sheets.proofs.Named.{by_code_order}
use Rattle.sheets.specs.declared.target.Target.{Target}
use Rattle.sheets.specs.Lines.{LineFields, three, split}
use Rattle.sheets.specs.Sheets.{Declares, Gives, DoneIf, Line}
use Rattle.sheets.specs.Targets.{Declared, target_of, by_code, names, among, placed, Sound, leads, ascending, Whole}
use Rattle.std.proofs.lemmas.Bool.{and_parts, and_from, false≢true}
use Rattle.std.specs.List.{insert, AllByRecursion}
use Rattle.std.specs.Ordering.{is_eq, is_lt, ordering_reverse}
use Rattle.types.specs.Model.{Ty}
use Rattle.types.specs.Types.{Of}
use Rattle.value_model.specs.Model.{Val}

-- ---- by the index of the place

pub placed_inserted : (t : Target) (ts : List Target) (i : ℕ) → i ≡ rank by_code t.name.now (names (map target_of ts)) → map target_of (insert ts i t) ≡ placed (target_of t) (map target_of ts)
placed_inserted t ts i e = ap (λ i. map target_of (insert ts i t)) e ∙ at_rank ts
  where
    at_rank : (ts : List Target) → map target_of (insert ts (rank by_code t.name.now (names (map target_of ts))) t) ≡ placed (target_of t) (map target_of ts)
    at_rank [] = refl
    at_rank (u ∷ us) = go (is_lt (by_code u.name.now t.name.now)) (rank by_code t.name.now (names (map target_of us))) (at_rank us)
      where
        go : (b : Bool) (n : ℕ) → map target_of (insert us n t) ≡ placed (target_of t) (map target_of us)
            → map target_of (insert (u ∷ us) (cond b (n + 1) 0) t) ≡ cond b (target_of u ∷ placed (target_of t) (map target_of us)) (target_of t ∷ (target_of u ∷ map target_of us))
        go true n h = ap (λ m. map target_of (insert (u ∷ us) m t)) (add-one n) ∙ ap (λ r. target_of u ∷ r) h
        go false n h = refl

-- ---- the targets stay as they should be

module _ (t : Declared) where
  placed_long : (ts : List Declared) → length (placed t ts) ≡ 1 + length ts
  placed_long [] = refl
  placed_long (u ∷ us) = go (is_lt (by_code u.name t.name)) (placed_long us)
    where
      go : (b : Bool) → length (placed t us) ≡ 1 + length us → length (cond b (u ∷ placed t us) (t ∷ (u ∷ us))) ≡ 1 + length (u ∷ us)
      go true h = omega arith
      go false h = omega arith

  placed_sound : Sound t → (ts : List Declared) → AllByRecursion Sound ts → AllByRecursion Sound (placed t ts)
  placed_sound s [] h = (s, tt)
  placed_sound s (u ∷ us) h = go (is_lt (by_code u.name t.name)) (placed_sound s us h.1)
    where
      go : (b : Bool) → AllByRecursion Sound (placed t us) → AllByRecursion Sound (cond b (u ∷ placed t us) (t ∷ (u ∷ us)))
      go true i = (h.0, i)
      go false i = (s, h)

  leads_placed : (n : List ℕ) (ts : List Declared) → is_lt (by_code n t.name) ≡ true → leads n ts ≡ true → leads n (placed t ts) ≡ true
  leads_placed n [] l h = l
  leads_placed n (u ∷ us) l h = elim (is_lt (by_code u.name t.name)) as (λ b. leads n (cond b (u ∷ placed t us) (t ∷ (u ∷ us))) ≡ true) [ true ↦ h | false ↦ l ]

  placed_ascending : (ts : List Declared) → ascending ts ≡ true → among t.name ts ≡ false → ascending (placed t ts) ≡ true
  placed_ascending [] a n = refl
  placed_ascending (u ∷ us) a n =
      let p = and_parts (leads u.name us) (ascending us) a in
      go (by_code u.name t.name) refl p.0 (placed_ascending us p.1) n
    where
      go : (o : Ordering) → by_code u.name t.name ≡ o → leads u.name us ≡ true → (among t.name us ≡ false → ascending (placed t us) ≡ true) → (is_eq o || among t.name us) ≡ false → ascending (cond (is_lt o) (u ∷ placed t us) (t ∷ (u ∷ us))) ≡ true
      go Less e l i n = and_from (leads u.name (placed t us)) (ascending (placed t us)) (leads_placed u.name us (ap is_lt e) l) (i n)
      go Equal e l i n = absurd (false≢true (sym n))
      go Greater e l i n = and_from (is_lt (by_code t.name u.name)) (ascending (u ∷ us)) (ap is_lt (by_code_order.flip t.name u.name ∙ ap ordering_reverse e)) a

  pub placed_whole : (ts : List Declared) → Whole ts → among t.name ts ≡ false → length ts < 16 → Sound t → Whole (placed t ts)
  placed_whole ts w n l s = let e = placed_long ts in record { few = omega arith; ordered = placed_ascending ts w.ordered n; sound = placed_sound s ts w.sound }

-- ---- a line

-- the line declares the target and gives its content
pub line_done : (ts : List Declared) (l : List ℕ) (p : LineFields) (y : Ty) (c : Option Val) (us : List Declared) → three (split 9 l) ≡ Some p → Whole ts → Declares ts p y → Gives y p.display c → IfSome c (Of y) → us ≡ placed (record { name = p.name; type = p.type; content = c }) ts → Line ts l (Ok us) × Whole us
line_done ts l p y c us e w d g o i =
    let t : Declared = record { name = p.name; type = p.type; content = c } in
    let s : Sound t = record { named = d.named; type_of = y; typed = d.typed; holds = o } in
    (subst (λ o. DoneIf ts o (Ok us)) (sym e) (y, d, c, g, i), subst Whole (sym i) (placed_whole t ts w d.new d.room s))
