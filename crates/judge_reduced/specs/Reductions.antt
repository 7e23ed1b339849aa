-- When traces are a reduction of a run.
use Rattle.std.specs.Prelude.{◌≡◌, ℕ, Bool, List, All, length}
use Rattle.def_format.specs.Documents.{Document, NamedPredicate}
use Rattle.def_model.specs.Cuts.{empty_cut, full_cut}
use Rattle.def_model.specs.Events.{Place}
use Rattle.def_model.specs.Messages.{HasLawfulMessages, Two}
use Rattle.def_model.specs.Order.{HasNoCycle}
use Rattle.def_model.specs.Predicates.{Recorded}
use Rattle.def_long.specs.MadeRuns.{IsMadeOf}
use Rattle.def_long.specs.Renamed.{Names}
use Rattle.def_orders.specs.Orders.{IsOver}
use Rattle.judge_orders.specs.Growth.{SeeNoOther}
use Rattle.judge_orders.specs.KeptEvents.{AllKept}
use Rattle.judge_reduced.specs.Plans.{IsReducedRun}
use Rattle.read_traces.specs.SessionTraces.{AreTraces}
use Rattle.read_traces.specs.Views.{computation_view}
use Rattle.read_traces.specs.declared.event.Trace.{Trace}

-- all processes and variables keep their numbers
abbrev pub identity_names : Names
identity_names = record { process = λ p. p; variable = λ p v. v }

-- what these traces record, with the initial values of a run
abbrev pub reduced_view : Recorded → List Trace → Recorded
reduced_view r traces = record { initial = r.initial; events = computation_view traces }

-- These are the numbers of the events of each process that set a variable that a predicate names to another value.
pub record AreKeptOf (document : Document) (r : Recorded) (numbers : List (List ℕ)) : Type 0 where
  pub named : List (List ℕ)
  pub one_each : length named ≡ length r.events
  pub over : All (λ (asked : NamedPredicate). IsOver named asked.predicate) document.predicates
  pub just : SeeNoOther named (length r.events) document.predicates
  pub kept : AllKept r named numbers (length r.events)

-- The traces are those of a session of the document, in which a message may have several receivers, and no event
-- happened before itself. For each predicate of the document they are made of the run's kept events, which are the same
-- ones for all. Each event is the image of an event that is kept, or a receipt before one.
pub record IsReductionOf (document : Document) (r : Recorded) (traces : List Trace) : Type 0 where
  pub are_traces : AreTraces document.names traces
  pub lawful : HasLawfulMessages Two (computation_view traces)
  pub no_cycle : HasNoCycle (computation_view traces)
  pub kept : Place → Bool
  pub kept' : Place → Bool
  pub made : All (λ (asked : NamedPredicate). IsMadeOf r (empty_cut r.events) (full_cut r.events) kept asked.predicate
      (reduced_view r traces) kept' identity_names) document.predicates
  pub numbers : List (List ℕ)
  pub are_kept : AreKeptOf document r numbers
  pub places : List (List ℕ)
  pub events : IsReducedRun r are_kept.named numbers (computation_view traces) places
