-- The pairs of counts of avoiding cuts, and what they decide. `good i j` says whether the predicate is true at counts i
-- and j of processes p and q, and `test` whether a cut satisfies.
use Rattle.std.specs.Prelude.{◌≡◌, ◌≢◌, ℕ, ◌-◌, ◌<◌, ◌⊎◌, ◌↔◌, Bool, false, List, slice_index, sum}
use Rattle.def_model.specs.Cuts.{IsConsistent}
use Rattle.def_model.specs.Events.{Computation}
use Rattle.def_model.specs.Observations.{IsAvoiding}
use Rattle.def_model.specs.Order.{HasNoCycle}
use Rattle.wide_pairs.specs.Pairs.{IsOfPair, IsPair}

-- i and j are the counts of p and q in an avoiding cut
abbrev pub IsAvoidingPair : Computation → (List ℕ → Bool) → ℕ → ℕ → ℕ → ℕ → Type 0
IsAvoidingPair c test p q i j =
    (cut : List ℕ) × IsAvoiding c test (sum cut) cut × (slice_index cut p ≡ i) × (slice_index cut q ≡ j)

-- a pair with one event less of one of the two is an avoiding cut's
abbrev pub HasAvoidingNeighbor : Computation → (List ℕ → Bool) → ℕ → ℕ → ℕ → ℕ → Type 0
HasAvoidingNeighbor c test p q i j =
    ((0 < i) × IsAvoidingPair c test p q (i - 1) j) ⊎ ((0 < j) × IsAvoidingPair c test p q i (j - 1))

-- the beginning, or a pair next to an avoiding cut's
abbrev pub CanBeReached : Computation → (List ℕ → Bool) → ℕ → ℕ → ℕ → ℕ → Type 0
CanBeReached c test p q i j = ((i ≡ 0) × (j ≡ 0)) ⊎ HasAvoidingNeighbor c test p q i j

-- A pair is that of an avoiding cut exactly if it is that of a consistent cut, isn't good, and is the beginning or next
-- to an avoiding cut's.
abbrev pub AvoidsByNeighbor : Type 0
AvoidsByNeighbor =
    (c : Computation) → HasNoCycle c → (test : List ℕ → Bool) (good : ℕ → ℕ → Bool) (p q : ℕ) → p ≢ q
    → IsOfPair c test good p q → (i j : ℕ) → IsAvoidingPair c test p q i j
    ↔ (IsPair c p q i j × (good i j ≡ false) × CanBeReached c test p q i j)

-- A consistent cut avoids exactly if its pair is that of an avoiding cut.
abbrev pub AvoidsByPair : Type 0
AvoidsByPair =
    (c : Computation) → HasNoCycle c → (test : List ℕ → Bool) (good : ℕ → ℕ → Bool) (p q : ℕ) → p ≢ q
    → IsOfPair c test good p q → (cut : List ℕ) → IsConsistent c cut → IsAvoiding c test (sum cut) cut
    ↔ IsAvoidingPair c test p q (slice_index cut p) (slice_index cut q)

-- the test of which cuts satisfy whose pair is good
abbrev pub test_of_pairs : (ℕ → ℕ → Bool) → ℕ → ℕ → List ℕ → Bool
test_of_pairs good p q cut = good (slice_index cut p) (slice_index cut q)
