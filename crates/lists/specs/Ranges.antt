-- Lists of the numbers from one to another.
use Rattle.std.specs.Prelude.{◌≡◌, ℕ, zero, suc, ◌<◌, ◌≤◌, true, ℤ, pos, ◌+ℤ◌, ◌<ℤ◌}
use Rattle.lists.specs.declared.ranges.RangeFault.{RangeFault}
use Rattle.lists.specs.declared.ranges.RangeFault.TheVariants.{Backward, TooLong, Memory}
use Rattle.types.specs.Model.{number, lists}
use Rattle.types.specs.Types.{bounded, Of}
use Rattle.value_model.specs.Model.{Vals, num, list, none, more}

-- the n numbers from a on
abbrev pub numbers : ℤ → ℕ → Vals
numbers a zero = none
numbers a (suc n) = more (num a) (numbers (a +ℤ pos 1) n)

-- there are n numbers from first to last
abbrev pub Count : ℤ → ℤ → ℕ → Type 0
Count first last n = last +ℤ pos 1 ≡ first +ℤ pos n

-- q is the list of the numbers from first to last, of which there are few enough
pub record Numbered (first last : ℤ) (q : Vals) : Type 0 where
  pub count : ℕ
  pub counts : Count first last count
  pub few : count ≤ 255
  pub value : q ≡ numbers first count
  pub typed : bounded first ≡ true → bounded last ≡ true → Of (lists number) (list q)

-- why there is no such list
abbrev pub Unranged : ℤ → ℤ → RangeFault → Type 0
Unranged first last Backward = (last +ℤ pos 1) <ℤ first
Unranged first last TooLong = (n : ℕ) × Count first last n × (255 < n)
Unranged first last Memory = Unit {0}
