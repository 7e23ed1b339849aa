-- What is known on the way of a search back. `dead` has the dead ends that it has come to, as the counts of them that
-- the predicate sees.
use Rattle.std.specs.Prelude.{◌≡◌, ℕ, ◌<◌, ◌⊎◌, ◌↔◌, List, [], ◌∷◌, length, reverse, sum, Contains, slice_index}
use Rattle.def_model.specs.Answers.{IsPrintedPath, LexBelow}
use Rattle.def_model.specs.Cuts.{IsConsistent, full_cut, one_less}
use Rattle.def_model.specs.Predicates.{Predicate, Recorded, test_of}
use Rattle.def_wide.specs.DeadEnds.{IsOpen, LeadsBack, named_counts}

-- to undo the last event of process p leaves an open cut
abbrev pub LeavesOpen : Recorded → Predicate → List ℕ → ℕ → Type 0
LeavesOpen r predicate cut p = (0 < slice_index cut p) × IsOpen r.events (test_of r predicate) (one_less cut p)

-- what the predicate sees of the cut without it
abbrev pub seen_without : Predicate → List ℕ → ℕ → List ℕ
seen_without predicate cut p = named_counts predicate (one_less cut p)

-- Process p needs no look: to undo its last event leaves no open cut, or a dead end.
abbrev pub IsTried : Recorded → Predicate → (dead : List (List ℕ)) → List ℕ → ℕ → Type 0
IsTried r predicate dead cut p = LeavesOpen r predicate cut p → Contains dead (seen_without predicate cut p)

-- no process below p does
abbrev pub AreTried : Recorded → Predicate → (dead : List (List ℕ)) → List ℕ → ℕ → Type 0
AreTried r predicate dead cut p = (q : ℕ) → q < p → IsTried r predicate dead cut q

-- to undo the last event of process p leaves an open cut, which is no dead end
pub record IsStep (r : Recorded) (predicate : Predicate) (dead : List (List ℕ)) (cut : List ℕ) (p : ℕ) : Type 0 where
  pub within : p < length cut
  pub leaves : LeavesOpen r predicate cut p
  pub fresh : ¬ Contains dead (seen_without predicate cut p)

-- From one cut the search has come back to another: of each cut on the way no lesser process needs a look than the one
-- whose event was undone, and of the last one none below next.
abbrev pub IsWayTo : Recorded → Predicate → (dead : List (List ℕ)) → List ℕ → List ℕ → List ℕ → ℕ → Type 0
IsWayTo r predicate dead from [] cut next =
    IsOpen r.events (test_of r predicate) from × AreTried r predicate dead from next × (from ≡ cut)
IsWayTo r predicate dead from (p ∷ undone) cut next =
    IsOpen r.events (test_of r predicate) from × AreTried r predicate dead from p × (0 < slice_index from p)
    × IsWayTo r predicate dead (one_less from p) undone cut next

-- These counts are seen of a cut to which the search comes, before it has found a path.
pub record IsReachedBefore (r : Recorded) (predicate : Predicate) (counts : List ℕ) : Type 0 where
  pub undone : List ℕ
  pub cut : List ℕ
  pub reached : LeadsBack r.events (test_of r predicate) (full_cut r.events) undone cut
  pub seen : counts ≡ named_counts predicate cut
  pub before : (path : List ℕ) → IsPrintedPath r.events (test_of r predicate) path → LexBelow undone (reverse path)

-- From an open cut of which a dead end's counts are seen each step leads to another one, and never to the empty cut.
-- The search has come to a cut of each of these counts.
pub record AreDeadEnds (r : Recorded) (predicate : Predicate) (dead : List (List ℕ)) : Type 0 where
  pub closed : (cut : List ℕ) (p : ℕ) → IsOpen r.events (test_of r predicate) cut
      → Contains dead (named_counts predicate cut) → IsTried r predicate dead cut p
  pub some : (cut : List ℕ) → IsConsistent r.events cut → Contains dead (named_counts predicate cut) → 0 < sum cut
  pub reached : (counts : List ℕ) → Contains dead counts → IsReachedBefore r predicate counts

-- the search is at this cut, which is no dead end so far, and no process below next needs a look there
pub record IsAt (r : Recorded) (predicate : Predicate) (dead : List (List ℕ)) (undone cut : List ℕ)
    (next : ℕ) : Type 0 where
  pub way : IsWayTo r predicate dead (full_cut r.events) undone cut next
  pub fresh : ¬ Contains dead (named_counts predicate cut)

-- the new counts are among the dead ends, beside the old ones
abbrev pub IsAdded : List (List ℕ) → List ℕ → List (List ℕ) → Type 0
IsAdded old counts new = (other : List ℕ) → Contains new other ↔ ((other ≡ counts) ⊎ Contains old other)
