-- The order in which cuts are looked at, and what the first of several least good cuts is. `test` says whether a cut
-- satisfies, and `goods i` which counts are good for number i.
use Rattle.std.specs.Prelude.{◌≡◌, ℕ, ◌<◌, ◌⊎◌, ◌↔◌, Bool, true, List, sum}
use Rattle.def_model.specs.Events.{Computation}
use Rattle.def_model.specs.Cuts.{IsConsistent}
use Rattle.def_model.specs.Observations.{Possibly}
use Rattle.def_model.specs.Answers.{LexBelow, IsFirstSatisfying}
use Rattle.wide_conjunctions.specs.LeastCuts.{IsGood, IsLeastGood, HasNoGood}

-- fewer events, or as many and lexicographically before
abbrev pub ComesBefore : List ℕ → List ℕ → Type 0
ComesBefore a b = (sum a < sum b) ⊎ ((sum a ≡ sum b) × LexBelow a b)

-- a consistent cut satisfies exactly if it is good for some number below n
abbrev pub IsGoodForSome : Computation → (List ℕ → Bool) → (ℕ → ℕ → ℕ → Bool) → ℕ → Type 0
IsGoodForSome c test goods n =
    (cut : List ℕ) → IsConsistent c cut → (test cut ≡ true) ↔ ((i : ℕ) × (i < n) × IsGood (goods i) cut)

-- the cut is the least good one of some number below n, and that of no other comes before it
pub record IsFirstLeast (c : Computation) (goods : ℕ → ℕ → ℕ → Bool) (n : ℕ) (cut : List ℕ) : Type 0 where
  pub number : ℕ
  pub within : number < n
  pub least : IsLeastGood c (goods number) cut
  pub first : (i : ℕ) (other : List ℕ) → i < n → IsLeastGood c (goods i) other → ¬ ComesBefore other cut

-- What comes before is before all that come after the other.
abbrev pub BeforeOnward : Type 0
BeforeOnward = (a b d : List ℕ) → ComesBefore a b → ComesBefore b d → ComesBefore a d

-- No cut comes before itself.
abbrev pub NotBeforeItself : Type 0
NotBeforeItself = (a : List ℕ) → ¬ ComesBefore a a

-- The first of the least good cuts is the first satisfying one.
abbrev pub FirstLeastIsFirst : Type 0
FirstLeastIsFirst =
    (c : Computation) (test : List ℕ → Bool) (goods : ℕ → ℕ → ℕ → Bool) (n : ℕ) (cut : List ℕ)
    → IsGoodForSome c test goods n → IsFirstLeast c goods n cut → IsFirstSatisfying c test cut

-- Where no number has a good cut, none satisfies.
abbrev pub NoneGoodNoneSatisfies : Type 0
NoneGoodNoneSatisfies =
    (c : Computation) (test : List ℕ → Bool) (goods : ℕ → ℕ → ℕ → Bool) (n : ℕ) → IsGoodForSome c test goods n
    → ((i : ℕ) → i < n → HasNoGood c (goods i)) → ¬ Possibly c test
