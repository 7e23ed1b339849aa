-- What is known in the midst of a search depth first. `test` says whether a cut satisfies.
use Rattle.std.specs.Prelude.{◌≡◌, ℕ, ◌+◌, ◌<◌, ◌≤◌, Bool, false, List, [], ◌∷◌, ◌++◌, length, sum, take, slice_index, slice_index_or}
use Rattle.walk_keys.specs.Keys.{digits}
use Rattle.def_model.specs.Answers.{LeavesAvoiding}
use Rattle.def_model.specs.Cuts.{one_less}
use Rattle.def_model.specs.Events.{Computation}
use Rattle.def_model.specs.Observations.{IsAvoiding}
use Rattle.def_model.specs.Paths.{IsAvoidingCut}
use Rattle.def_model.specs.Predicates.{test_of}
use Rattle.pd_pred.specs.Views.{predicate_view}
use Rattle.walk_back.specs.Ways.{IsReached, LeavesConsistent}
use Rattle.walk_back.specs.declared.search.Search.{Search}

-- the cut whose counts are the digits of the number doesn't avoid
abbrev pub IsDead : Computation → (List ℕ → Bool) → ℕ → Type 0
IsDead c test number = ¬ IsAvoiding c test (sum (digits (length c) number)) (digits (length c) number)

-- that is so of each of these numbers
abbrev pub AreDead : Computation → (List ℕ → Bool) → List ℕ → Type 0
AreDead c test numbers = (i d : ℕ) → i < length numbers → IsDead c test (slice_index_or numbers i d)

-- no process below p leaves an avoiding cut
abbrev pub NoneLeaves : Computation → (List ℕ → Bool) → List ℕ → ℕ → Type 0
NoneLeaves c test cut p = (q : ℕ) → q < p → ¬ LeavesAvoiding c test cut q

-- To undo the last event of process p leaves a consistent cut that doesn't satisfy, and that avoids if it is of the
-- level with this number.
pub record IsWorthTrying (c : Computation) (test : List ℕ → Bool) (number : ℕ) (cut : List ℕ) (p : ℕ) : Type 0 where
  pub leaves : LeavesConsistent c cut p
  pub fails : test (one_less cut p) ≡ false
  pub lowest : sum cut ≡ number + 1 → LeavesAvoiding c test cut p

-- A cut i steps below one of k events: no process below p leaves an avoiding cut of it, and if it avoids, the way so
-- far and these steps lead to it.
pub record IsStacked (c : Computation) (test : List ℕ → Bool) (path steps : List ℕ) (k i : ℕ) (cut : List ℕ)
    (p : ℕ) : Type 0 where
  pub here : IsAvoidingCut c test cut
  pub level : sum cut + i ≡ k
  pub within : p ≤ length cut
  pub tried : NoneLeaves c test cut p
  pub onward : IsAvoiding c test (sum cut) cut → IsReached c test (path ++ take i steps) cut

-- the cut without the last event of each of these processes, one after another
abbrev pub undone : List ℕ → List ℕ → List ℕ
undone cut [] = cut
undone cut (p ∷ steps) = undone (one_less cut p) steps

-- The search is at a cut above the level with this number, which these steps lead to from the top one. At each cut
-- before it the process of the step is tried.
pub record IsSearched (c : Computation) (test : List ℕ → Bool) (path : List ℕ) (number k : ℕ) (top cut : List ℕ)
    (next : ℕ) (steps : List ℕ) : Type 0 where
  pub at : undone top steps ≡ cut
  pub above : number + length steps < k
  pub here : IsStacked c test path steps k (length steps) cut next
  pub each : (i e : ℕ) → i < length steps
      → IsStacked c test path steps k i (undone top (take i steps)) (slice_index_or steps i e)
  pub some : (i e : ℕ) → i < length steps
      → 0 < slice_index (undone top (take i steps)) (slice_index_or steps i e)

-- the computation of what a search goes by
abbrev pub search_events : Search → Computation
search_events search = search.computation.now.events

-- whether a cut satisfies its predicate
abbrev pub search_test : Search → List ℕ → Bool
search_test search = test_of search.computation.now (predicate_view search.pred.now)
