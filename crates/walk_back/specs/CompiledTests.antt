-- A compiled predicate as a test of cuts.
use Rattle.std.specs.Borrow.{Bor}
use Rattle.std.specs.Prelude.{◌≡◌, ℕ, ◌≤◌, Bool, List, length}
use Rattle.def_model.specs.Events.{Computation}
use Rattle.def_model.specs.Predicates.{Predicate, Recorded, test_of}
use Rattle.walk_tables.specs.Views.{CompiledView}

-- the computation that a predicate was compiled for, and the predicate as a test
abbrev pub events_of : CompiledView → Computation
events_of compiled = compiled.recorded.events

abbrev pub meaning_of : CompiledView → List ℕ → Bool
meaning_of compiled = test_of compiled.recorded compiled.predicate

-- the predicate compiled for a computation of at least two processes
pub record IsTestOf (recorded : Recorded) (predicate : Predicate) (test : Bor CompiledView) : Type 0 where
  pub two : 2 ≤ length recorded.events
  pub same : test.now ≡ record { recorded = recorded; predicate = predicate }
