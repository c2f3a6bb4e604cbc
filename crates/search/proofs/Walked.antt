-- The walk along a row that is no slice, and what it reaches.
use Rattle.std.proofs.Common.{◌≡◌, ℕ, ◌+◌, ◌-◌, ◌^◌, ◌<◌, min, Bool, false, List, length, Some, None, Ordering, Less, sym, refl, subst, arith}
use Rattle.std.specs.Ordering.{is_lt, is_eq}
use Rattle.search.proofs.Places.{parted}
use Rattle.search.specs.Search.{first, rest, rank, after, stands, Parted, Reached}

module _ {K : Type 0} (cmp : K → K → Ordering) where
  -- the keys ahead give the answer of the whole row, but for the number of keys passed
  pub record Onward (k : K) (all : List K) (passed : ℕ) (j : K) (ahead : List K) : Type 0 where
    pub same : j ≡ k
    pub counted : passed < 2 ^ 64
    pub ranks : min (passed + rank cmp k ahead) (2 ^ 64 - 1) ≡ min (rank cmp k all) (2 ^ 64 - 1)
    pub standing : stands cmp k ahead ≡ stands cmp k all
    pub follows : after cmp k ahead ≡ after cmp k all

  pub onward_more : (k : K) (all : List K) (n m : ℕ) (j i : K) (ahead next : List K) → Onward k all n j ahead → first cmp j ahead ≡ Some Less → i ≡ j → next ≡ rest ahead → m ≡ min (n + 1) (2 ^ 64 - 1) → Onward k all m i next
  onward_more k all n m j i ahead next h e s r f = grind arith

  pub shorter : (k : K) (ahead next : List K) → first cmp k ahead ≡ Some Less → next ≡ rest ahead → length next < length ahead
  shorter k ahead next e r = grind arith

  -- a place at which the search stops
  pub record Stops (k : K) (ahead : List K) (found : Bool) : Type 0 where
    pub none : rank cmp k ahead ≡ 0
    pub standing : stands cmp k ahead ≡ found
    pub here : after cmp k ahead ≡ ahead

  pub stops_end : (k : K) (ahead : List K) → first cmp k ahead ≡ None → Stops k ahead false
  stops_end k ahead e = grind arith

  pub stops_at : (k : K) (ahead : List K) (o : Ordering) → first cmp k ahead ≡ Some o → is_lt o ≡ false → Stops k ahead (is_eq o)
  stops_at k ahead o e n = grind arith

  reached_so : (k j : K) (all ahead : List K) (n : ℕ) (b : Bool) → Onward k all n j ahead → Stops j ahead b → Reached cmp k all n b ahead
  reached_so k j all ahead n b h s =
      let d : b ≡ stands cmp k all = grind arith in
      record { place = grind arith; finds = record { place = refl; here = d; onward = grind arith; parts = λ o a. subst (Parted cmp k all) (sym d) (parted cmp o k all a) } }

  pub reached_end : (k j : K) (all ahead : List K) (n : ℕ) → Onward k all n j ahead → first cmp j ahead ≡ None → Reached cmp k all n false ahead
  reached_end k j all ahead n h e = reached_so k j all ahead n false h (stops_end j ahead e)

  pub reached_at : (k j : K) (all ahead : List K) (n : ℕ) (o : Ordering) → Onward k all n j ahead → first cmp j ahead ≡ Some o → is_lt o ≡ false → Reached cmp k all n (is_eq o) ahead
  reached_at k j all ahead n o h e l = reached_so k j all ahead n (is_eq o) h (stops_at j ahead o e l)
