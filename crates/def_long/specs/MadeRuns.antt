-- Recorded runs that are made of the kept events of windows of another one, as far as their maker knows them: by single
-- events, processes and messages.
use Rattle.std.specs.Prelude.{⊤, ◌≡◌, ℕ, Bool, List, [], ◌∷◌, slice_index}
use Rattle.def_model.specs.Events.{Place}
use Rattle.def_model.specs.Predicates.{Predicate, Recorded, test_of}
use Rattle.def_long.specs.Windows.{window, whole}
use Rattle.def_long.specs.Kept.{IsKept}
use Rattle.def_long.specs.Views.{OthersAreUnseen}
use Rattle.def_long.specs.Renamed.{KeepProcesses, Names, SeesTheSameIn, renamed}
use Rattle.def_long.specs.MadeMessages.{KeepsOrderByMessages}

-- The second run is made of the window of the first one from one cut to another: messages keep the order of the kept
-- events, each process has a place of its own, the predicate sees no other event in either run, and it sees the same of
-- each process at the beginning and after each kept event.
pub record IsMadeOf (r : Recorded) (from to : List ℕ) (kept : Place → Bool) (predicate : Predicate) (r' : Recorded)
    (kept' : Place → Bool) (names : Names) : Type 0 where
  pub order : KeepsOrderByMessages (window r.events from to) kept (whole r'.events) kept'
  pub processes : KeepProcesses (window r.events from to) kept names order.image
  pub one_place : (p q : ℕ) → names.process p ≡ names.process q → p ≡ q
  pub unseen : OthersAreUnseen r predicate kept
  pub unseen' : OthersAreUnseen r' (renamed names predicate) kept'
  pub first_view : (p : ℕ) → SeesTheSameIn r (slice_index from p) r' 0 names p predicate
  pub views : (e : Place) → IsKept (window r.events from to) kept e
      → SeesTheSameIn r e.number r' (order.image e).number names e.process predicate

-- ---- of each window of a run

-- a run that is made, with the events in it that are kept, and the numbers that processes and variables have there
pub record MadeRun : Type 0 where
  pub recorded : Recorded
  pub kept : Place → Bool
  pub names : Names

-- each run is made of the window from one cut of the list to the next one, in their order
abbrev pub AreMadeOf : Recorded → (Place → Bool) → Predicate → List (List ℕ) → List MadeRun → Type 0
AreMadeOf r kept predicate [] runs = ⊥
AreMadeOf r kept predicate (a ∷ []) [] = ⊤
AreMadeOf r kept predicate (a ∷ []) (run ∷ more) = ⊥
AreMadeOf r kept predicate (a ∷ b ∷ rest) [] = ⊥
AreMadeOf r kept predicate (a ∷ b ∷ rest) (run ∷ more) =
    IsMadeOf r a b kept predicate run.recorded run.kept run.names × AreMadeOf r kept predicate (b ∷ rest) more

-- the predicate's test of the cuts of such a run
abbrev pub made_test : Predicate → MadeRun → List ℕ → Bool
made_test predicate run = test_of run.recorded (renamed run.names predicate)
