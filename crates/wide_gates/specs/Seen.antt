-- The first of the cuts that were looked at.
use Rattle.std.specs.Prelude.{◌≡◌, ℕ, ◌<◌, ◌⊎◌, true, List, Option, Some, None, sum}
use Rattle.def_model.specs.Cuts.{IsConsistent}
use Rattle.def_model.specs.Events.{Computation}
use Rattle.def_model.specs.Predicates.{Predicate, Recorded, test_of}
use Rattle.def_wide.specs.Tried.{IsOnWayBack, LeavesConsistent}
use Rattle.wide_conjunctions.specs.CutOrder.{ComesBefore}

-- the cut is consistent and satisfies
abbrev pub IsGood : Recorded → Predicate → List ℕ → Type 0
IsGood r predicate cut = IsConsistent r.events cut × (test_of r predicate cut ≡ true)

-- the first good cut of those that were seen, or none of them is good
abbrev pub IsFirstSeen : Recorded → Predicate → (List ℕ → Type 0) → Option (List ℕ) → Type 0
IsFirstSeen r predicate Seen None = (cut : List ℕ) → Seen cut → ¬ IsGood r predicate cut
IsFirstSeen r predicate Seen (Some cut) =
    Seen cut × IsGood r predicate cut
    × ((other : List ℕ) → Seen other → IsGood r predicate other → ¬ ComesBefore other cut)

-- the one that was found before, and these
abbrev pub AfterBest : Option (List ℕ) → (List ℕ → Type 0) → List ℕ → Type 0
AfterBest best Seen cut = (best ≡ Some cut) ⊎ Seen cut

-- on the way back, with more events than this
abbrev pub IsBackAbove : Computation → ℕ → List ℕ → Type 0
IsBackAbove c events cut = IsOnWayBack c cut × (events < sum cut)

-- the least process whose last event leaves a consistent cut
pub record IsLeastLeaving (c : Computation) (cut : List ℕ) (p : ℕ) : Type 0 where
  pub leaves : LeavesConsistent c cut p
  pub least : (q : ℕ) → q < p → ¬ LeavesConsistent c cut q
