-- What reading a text says, for any kind of word. `Form v s` says that s is how v is written.
use Rattle.std.specs.Prelude.{◌≡◌, ℕ, Bool, true, false, List, [], ◌∷◌, ◌++◌, length, Ok, Err, Result, ◌≢◌}
use Rattle.reading.specs.declared.fault.Fault.{Fault}
use Rattle.reading.specs.declared.fault.Fault.TheVariants.{Syntax, Limit}

module _ {V : Type 0} (Form : V → List ℕ → Type 0) where
  -- s is how v is written, and v alone
  pub record Written (s : List ℕ) (v : V) : Type 0 where
    pub form : Form v s
    pub only : (w : V) → Form w s → w ≡ v

  -- the longest beginning of s that some right form shares has k bytes
  pub record Longest (s : List ℕ) (k : ℕ) : Type 0 where
    pub front : List ℕ
    pub back : List ℕ
    pub splits : s ≡ front ++ back
    pub long : length front ≡ k
    -- some form begins with the front
    pub word : V
    pub more : List ℕ
    pub shares : Form word (front ++ more)
    -- and none with one byte more of s
    pub most : (c : ℕ) (rest : List ℕ) → back ≡ c ∷ rest → (w : V) (x : List ℕ) → Form w (front ++ (c ∷ x)) → ⊥

  -- s is of no right form
  pub record Wrong (s : List ℕ) (k : ℕ) : Type 0 where
    pub none : (w : V) → Form w s → ⊥
    pub longest : Longest s k

  -- what a reader answers: the word that is written so and keeps its limits, or what is wrong
  abbrev pub Answer : {X : Type 0} → (V → Bool) → (V → X → Type 0) → List ℕ → Result X Fault → Type 0
  Answer fits Means s (Ok x) = (v : V) × Written s v × (fits v ≡ true) × Means v x
  Answer fits Means s (Err (Syntax k)) = Wrong s k
  Answer fits Means s (Err Limit) = (v : V) × Written s v × (fits v ≡ false)

-- both end, or both begin with the same byte
abbrev pub SameHead : List ℕ → List ℕ → Type 0
SameHead [] [] = Unit {0}
SameHead [] (d ∷ Y) = ⊥
SameHead (c ∷ X) [] = ⊥
SameHead (c ∷ X) (d ∷ Y) = c ≡ d

-- Words in the middle of a text: `shown v rest` is how v is written, and then the rest, which is to meet After.
module _ {V : Type 0} (Right : V → Type 0) (shown : V → List ℕ → List ℕ) (After : List ℕ → Type 0) where
  -- X begins with no word: some word begins with what stands before back, and none with the next byte too, whatever follows
  pub record Stuck (X back : List ℕ) : Type 0 where
    pub front : List ℕ
    pub splits : X ≡ front ++ back
    pub word : V
    pub right : Right word
    pub more : List ℕ
    pub shares : shown word [] ≡ front ++ more
    pub stop : (R : List ℕ) → SameHead back R → (w : V) (rest : List ℕ) → Right w → After rest → front ++ R ≢ shown w rest
