-- What follows for the answers.
use Rattle.std.specs.Prelude.{◌↔◌, List, All}
use Rattle.def_format.specs.Documents.{Document, NamedPredicate}
use Rattle.def_model.specs.Observations.{Definitely, Possibly}
use Rattle.def_model.specs.Order.{HasNoCycle}
use Rattle.def_model.specs.Predicates.{Recorded, test_of}
use Rattle.read_traces.specs.Views.{computation_view}
use Rattle.read_traces.specs.declared.event.Trace.{Trace}
use Rattle.judge_reduced.specs.Reductions.{IsReductionOf, reduced_view}

-- A reduction has the answers of the run for each predicate of the document.
abbrev pub PossiblyOfReducedRun : Type 0
PossiblyOfReducedRun =
    (document : Document) (r : Recorded) (traces : List Trace) → HasNoCycle r.events → IsReductionOf document r traces
    → All (λ (asked : NamedPredicate). Possibly r.events (test_of r asked.predicate)
    ↔ Possibly (computation_view traces) (test_of (reduced_view r traces) asked.predicate)) document.predicates

abbrev pub DefinitelyOfReducedRun : Type 0
DefinitelyOfReducedRun =
    (document : Document) (r : Recorded) (traces : List Trace) → HasNoCycle r.events → IsReductionOf document r traces
    → All (λ (asked : NamedPredicate). Definitely r.events (test_of r asked.predicate)
    ↔ Definitely (computation_view traces) (test_of (reduced_view r traces) asked.predicate)) document.predicates
