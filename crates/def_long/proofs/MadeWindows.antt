-- Runs that are made of the windows of a run have its answers.
use Rattle.std.proofs.Common.{ℕ, zero, suc, Bool, List, [], ◌∷◌, ◌++◌, All, Contains, refl, subst, sym, inl, inr, ◌⊎◌, ◌↔◌, arith}
use Rattle.def_model.specs.Events.{Computation, Linked, Place}
use Rattle.def_model.specs.Order.{HasNoCycle}
use Rattle.def_model.specs.Cuts.{empty_cut, full_cut}
use Rattle.def_model.specs.Lattice.{IsWithin}
use Rattle.def_model.specs.Observations.{Definitely, Possibly}
use Rattle.def_model.specs.Predicates.{Predicate, Recorded, test_of}
use Rattle.def_model.proofs.Counts.{empty_at}
use Rattle.def_model.proofs.Steps.{empty_consistent}
use Rattle.def_long.specs.Windows.{DefinitelyIn, IsCutIn, IsWindow, PossiblyIn, Window, whole, window}
use Rattle.def_long.specs.Kept.{KeptDecide}
use Rattle.def_long.specs.Boundaries.{IsBoundary, OfSomePart, OfSomeWindow}
use Rattle.def_long.specs.Views.{OthersAreUnseen}
use Rattle.def_long.specs.Laws.{DefinitelyOfMadeRuns, PossiblyOfMadeRuns}
use Rattle.def_long.specs.MadeRuns.{AreMadeOf, IsMadeOf, MadeRun, made_test}
use Rattle.def_long.proofs.MadeViews.{definitely_of_made_run, possibly_of_made_run}
use Rattle.def_long.proofs.SameViews.{seen_decide}
use Rattle.def_long.proofs.WindowCuts.{full_consistent, in_whole}
use Rattle.def_long.proofs.WindowsOfRun.{definitely_of_run, possibly_of_run}

-- ---- windows between boundaries

window_between : (c : Computation) → HasNoCycle c → (a b : List ℕ) → IsCutIn (whole c) a → IsCutIn (whole c) b
    → IsWithin a b → IsWindow (window c a b)
window_between c acyclic a b in_a in_b within = record {
  no_cycle = acyclic;
  first = record { consistent = in_a.consistent; above = λ p. omega arith; below = within };
  last = record { consistent = in_b.consistent; above = within; below = λ p. omega arith };
}

abbrev AreWindows : Computation → List (List ℕ) → Type 0
AreWindows c cuts = Linked (λ a b. IsWindow (window c a b)) cuts

windows_between : (c : Computation) → HasNoCycle c → (kept : Place → Bool) (boundaries : List (List ℕ)) (a : List ℕ)
    → IsCutIn (whole c) a → All (IsBoundary (whole c) kept) boundaries → Linked IsWithin (a ∷ boundaries)
    → AreWindows c (a ∷ (boundaries ++ full_cut c ∷ []))
windows_between c acyclic kept [] a in_a all linked =
    (window_between c acyclic a (full_cut c) in_a (in_whole c (full_cut c) (full_consistent c)) in_a.below, tt)
windows_between c acyclic kept (b ∷ rest) a in_a all linked = (
  window_between c acyclic a b in_a at.in_window linked.0,
  windows_between c acyclic kept rest b at.in_window (λ i d lt. all (suc i) d (omega arith)) linked.1,
)
  where
    at : IsBoundary (whole c) kept b
    at = all 0 b (omega arith)

from_empty : (c : Computation) (boundaries : List (List ℕ)) → Linked IsWithin boundaries
    → Linked IsWithin (empty_cut c ∷ boundaries)
from_empty c [] linked = tt
from_empty c (b ∷ rest) linked = (λ p. rw empty_at (omega arith), linked)

-- ---- what holds of a window exactly if it holds of the run that is made of it

module _ (r : Recorded) (kept : Place → Bool) (predicate : Predicate) (P : Window → Type 0) (Q : MadeRun → Type 0)
    (each : (a b : List ℕ) (run : MadeRun) → IsWindow (window r.events a b)
    → IsMadeOf r a b kept predicate run.recorded run.kept run.names → P (window r.events a b) ↔ Q run) where
  OfSomeRun : List MadeRun → Type 0
  OfSomeRun runs = (run : MadeRun) × Contains runs run × Q run

  some_run : (cuts : List (List ℕ)) (runs : List MadeRun) → AreWindows r.events cuts
      → AreMadeOf r kept predicate cuts runs → OfSomeWindow P r.events cuts ↔ OfSomeRun runs
  unfolding OfSomeRun
  some_run [] runs windows made = absurd made
  some_run (a ∷ []) [] windows made = (λ none. absurd none, λ s. absurd (empty s.1))
    where
      empty : {run : MadeRun} → Contains [] run → ⊥
      empty (k, lt, at) = omega arith
  some_run (a ∷ []) (run ∷ more) windows made = absurd made
  some_run (a ∷ b ∷ rest) [] windows made = absurd made
  some_run (a ∷ b ∷ rest) (run ∷ more) windows made =
      go (each a b run windows.0 made.0) (some_run (b ∷ rest) more windows.1 made.1)
    where
      go : P (window r.events a b) ↔ Q run
          → OfSomeWindow P r.events (b ∷ rest) ↔ ((x : MadeRun) × Contains more x × Q x)
          → (P (window r.events a b) ⊎ OfSomeWindow P r.events (b ∷ rest))
          ↔ ((x : MadeRun) × Contains (run ∷ more) x × Q x)
      go here later = (to, from)
        where
          to : P (window r.events a b) ⊎ OfSomeWindow P r.events (b ∷ rest)
              → (x : MadeRun) × Contains (run ∷ more) x × Q x
          to (inl h) = (run, (0, omega arith, refl), here.0 h)
          to (inr h) = next (later.0 h)
            where
              next : (x : MadeRun) × Contains more x × Q x → (x : MadeRun) × Contains (run ∷ more) x × Q x
              next (x, (k, lt, at), q) = (x, (suc k, omega arith, at), q)

          from : (x : MadeRun) × Contains (run ∷ more) x × Q x
              → P (window r.events a b) ⊎ OfSomeWindow P r.events (b ∷ rest)
          from (x, (zero, lt, at), q) = inl (here.1 (subst Q (sym at) q))
          from (x, (suc k, lt, at), q) = inr (later.1 (x, (k, omega arith, at), q))

-- the first of them says which events are unseen
unseen_of_made : (r : Recorded) (kept : Place → Bool) (predicate : Predicate) (a : List ℕ)
    (boundaries : List (List ℕ)) (runs : List MadeRun)
    → AreMadeOf r kept predicate (a ∷ (boundaries ++ full_cut r.events ∷ [])) runs → OthersAreUnseen r predicate kept
unseen_of_made r kept predicate a [] [] made = absurd made
unseen_of_made r kept predicate a [] (run ∷ more) made = made.0.unseen
unseen_of_made r kept predicate a (b ∷ rest) [] made = absurd made
unseen_of_made r kept predicate a (b ∷ rest) (run ∷ more) made = made.0.unseen

module _ (r : Recorded) (acyclic : HasNoCycle r.events) (kept : Place → Bool) (predicate : Predicate)
    (boundaries : List (List ℕ)) (runs : List MadeRun) (all : All (IsBoundary (whole r.events) kept) boundaries)
    (linked : Linked IsWithin boundaries)
    (made : AreMadeOf r kept predicate (empty_cut r.events ∷ (boundaries ++ full_cut r.events ∷ [])) runs) where
  decide : KeptDecide (whole r.events) kept (test_of r predicate)
  decide =
      seen_decide r predicate kept (empty_cut r.events) (full_cut r.events)
      (unseen_of_made r kept predicate (empty_cut r.events) boundaries runs made)

  windows : AreWindows r.events (empty_cut r.events ∷ (boundaries ++ full_cut r.events ∷ []))
  windows =
      windows_between r.events acyclic kept boundaries (empty_cut r.events)
      (in_whole r.events (empty_cut r.events) (empty_consistent r.events)) all
      (from_empty r.events boundaries linked)

  possibly_by_made : Possibly r.events (test_of r predicate)
      ↔ ((run : MadeRun) × Contains runs run × Possibly run.recorded.events (made_test predicate run))
  unfolding OfSomeRun
  possibly_by_made = (λ h. of.0 (parts.0 h), λ s. parts.1 (of.1 s))
    where
      parts : Possibly r.events (test_of r predicate)
          ↔ OfSomePart (λ w. PossiblyIn w (test_of r predicate)) r.events boundaries
      parts = possibly_of_run r.events acyclic kept (test_of r predicate) decide boundaries all linked

      of : OfSomePart (λ w. PossiblyIn w (test_of r predicate)) r.events boundaries
          ↔ ((run : MadeRun) × Contains runs run × Possibly run.recorded.events (made_test predicate run))
      of =
          some_run r kept predicate (λ w. PossiblyIn w (test_of r predicate))
          (λ run. Possibly run.recorded.events (made_test predicate run))
          (λ a b run is is_made. possibly_of_made_run r run.recorded a b kept run.kept predicate run.names is is_made)
          (empty_cut r.events ∷ (boundaries ++ full_cut r.events ∷ [])) runs windows made

  definitely_by_made : Definitely r.events (test_of r predicate)
      ↔ ((run : MadeRun) × Contains runs run × Definitely run.recorded.events (made_test predicate run))
  unfolding OfSomeRun
  definitely_by_made = (λ h. of.0 (parts.0 h), λ s. parts.1 (of.1 s))
    where
      parts : Definitely r.events (test_of r predicate)
          ↔ OfSomePart (λ w. DefinitelyIn w (test_of r predicate)) r.events boundaries
      parts = definitely_of_run r.events acyclic kept (test_of r predicate) decide boundaries all linked

      of : OfSomePart (λ w. DefinitelyIn w (test_of r predicate)) r.events boundaries
          ↔ ((run : MadeRun) × Contains runs run × Definitely run.recorded.events (made_test predicate run))
      of =
          some_run r kept predicate (λ w. DefinitelyIn w (test_of r predicate))
          (λ run. Definitely run.recorded.events (made_test predicate run)) (λ a b run is is_made.
          definitely_of_made_run r run.recorded a b kept run.kept predicate run.names is is_made)
          (empty_cut r.events ∷ (boundaries ++ full_cut r.events ∷ [])) runs windows made

pub possibly_of_made_runs : PossiblyOfMadeRuns
possibly_of_made_runs r acyclic kept predicate boundaries runs all linked made =
    possibly_by_made r acyclic kept predicate boundaries runs all linked made

pub definitely_of_made_runs : DefinitelyOfMadeRuns
definitely_of_made_runs r acyclic kept predicate boundaries runs all linked made =
    definitely_by_made r acyclic kept predicate boundaries runs all linked made
