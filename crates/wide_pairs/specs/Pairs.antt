-- The pairs of counts of two processes p and q, and what they decide of a predicate that speaks of these two alone.
-- `good i j` says whether the predicate is true at counts i and j, both from 0, and `test` whether a cut satisfies.
use Rattle.std.specs.Prelude.{◌≡◌, ℕ, Bool, List, slice_index}
use Rattle.def_model.specs.Answers.{IsFirstSatisfying}
use Rattle.def_model.specs.Cuts.{IsConsistent}
use Rattle.def_model.specs.Events.{Computation}
use Rattle.def_model.specs.Observations.{Possibly}

-- i and j are the counts of p and q in a consistent cut
abbrev pub IsPair : Computation → ℕ → ℕ → ℕ → ℕ → Type 0
IsPair c p q i j = (cut : List ℕ) × IsConsistent c cut × (slice_index cut p ≡ i) × (slice_index cut q ≡ j)

-- a consistent cut satisfies exactly if its counts of p and q are good together
abbrev pub IsOfPair : Computation → (List ℕ → Bool) → (ℕ → ℕ → Bool) → ℕ → ℕ → Type 0
IsOfPair c test good p q =
    (cut : List ℕ) → IsConsistent c cut → test cut ≡ good (slice_index cut p) (slice_index cut q)

-- the first satisfying cut of each such test
abbrev pub IsFirstByPairs : Computation → (ℕ → ℕ → Bool) → ℕ → ℕ → List ℕ → Type 0
IsFirstByPairs c good p q cut = (test : List ℕ → Bool) → IsOfPair c test good p q → IsFirstSatisfying c test cut

-- no cut satisfies such a test
abbrev pub IsNeverByPairs : Computation → (ℕ → ℕ → Bool) → ℕ → ℕ → Type 0
IsNeverByPairs c good p q = (test : List ℕ → Bool) → IsOfPair c test good p q → ¬ Possibly c test
