-- A session that has the answers of a run.
use Rattle.std.specs.Prelude.{◌≡◌, ◌↔◌, ℕ, ◌<◌, List, [], All, AllPairs, Ok, length}
use Rattle.std.specs.List.{AllZip}
use Rattle.def_model.specs.Observations.{Definitely, Possibly}
use Rattle.def_model.specs.Order.{IsWellFormed}
use Rattle.def_model.specs.Predicates.{Recorded, test_of}
use Rattle.def_long.specs.Renamed.{Names, renamed}
use Rattle.def_orders.specs.Selections.{at_places, numbers_in}
use Rattle.def_format.specs.Documents.{Document, IsDocument, NamedPredicate, plain}
use Rattle.def_format.specs.Names.{ProcessNames}
use Rattle.def_format.specs.Readings.{Trace}
use Rattle.def_format.specs.Sessions.{StreamResult, session}
use Rattle.def_judgement.specs.Judgements.{AreResultsOf, ended_streams, events_of_traces, recorded_of}

-- These bytes of a document and of streams are a session, which records this.
pub record IsSession (bytes : List ℕ) (streams : List (List ℕ)) (document : Document) (recorded : Recorded) : Type 0
  where
    pub is_document : IsDocument (plain bytes) document
    pub results : List StreamResult
    pub are_results : AreResultsOf document.names (ended_streams streams) results
    pub traces : List Trace
    pub joined : session document.names (length streams) results ≡ Ok traces
    pub formed : IsWellFormed document.version (events_of_traces traces)
    pub is_recorded : recorded ≡ recorded_of document traces

-- The second predicate has in the second run the answers that the first one has in the first run.
pub record HaveSameAnswers (r r' : Recorded) (asked image : NamedPredicate) : Type 0 where
  pub possibly : Possibly r.events (test_of r asked.predicate) ↔ Possibly r'.events (test_of r' image.predicate)
  pub definitely : Definitely r.events (test_of r asked.predicate) ↔ Definitely r'.events (test_of r' image.predicate)

-- The predicate of a document is one of another document, with its name, if the processes of the other one have these
-- numbers in the first.
abbrev pub IsSamePredicate : Names → NamedPredicate → NamedPredicate → Type 0
IsSamePredicate names asked image =
    (image.name ≡ asked.name) × (renamed names image.predicate ≡ asked.predicate)

-- no process
abbrev pub no_process : ProcessNames
no_process = record { name = []; vars = [] }

-- These bytes of a document and of streams are a session that has the answers of a run of this document: it has some
-- processes of the run, those at these places, with their variables, and all its predicates, and each has the same
-- answers.
pub record IsReducedSession (document : Document) (recorded : Recorded) (bytes : List ℕ) (streams : List (List ℕ)) :
    Type 0 where
  pub made : Document
  pub image : Recorded
  pub is_session : IsSession bytes streams made image
  pub places : List ℕ
  pub ascend : AllPairs (λ (p q : ℕ). p < q) places
  pub there : All (λ p. p < length document.names) places
  pub same_names : made.names ≡ at_places places document.names no_process
  pub same_predicates : AllZip (IsSamePredicate (numbers_in places (length document.names))) document.predicates
      made.predicates
  pub same_answers : AllZip (HaveSameAnswers recorded image) document.predicates made.predicates
