-- The computation of a session's traces.
use Rattle.std.specs.Prelude.{◌≡◌, ℕ, List, length}
use Rattle.def_model.specs.Messages.{HasMessages}
use Rattle.def_model.specs.Order.{IsWellFormed}
use Rattle.def_model.specs.Predicates.{Recorded}
use Rattle.def_format.specs.Documents.{Document}
use Rattle.def_format.specs.Readings as readings
use Rattle.def_judgement.specs.Judgements.{events_of_traces, recorded_of}

-- the traces make a well-formed computation, of which this was recorded, with this many messages
pub record AreWellFormed (document : Document) (traces : List readings.Trace) (recorded : Recorded) (messages : ℕ) :
    Type 0 where
  pub same : recorded ≡ recorded_of document traces
  pub one_each : length recorded.events ≡ length document.names
  pub formed : IsWellFormed document.version (events_of_traces traces)
  pub counted : HasMessages (events_of_traces traces) messages
