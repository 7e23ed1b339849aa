-- What was read of a session that was made.
use Rattle.std.specs.Prelude.{◌≡◌, ℕ, ◌<◌, ◌≤◌, List, [], All, AllPairs, Contains, Ok, length, slice_index_or}
use Rattle.std.specs.List.{AllZip}
use Rattle.def_model.specs.Cuts.{total}
use Rattle.def_model.specs.Messages.{HasMessages}
use Rattle.def_model.specs.Order.{IsWellFormed}
use Rattle.def_model.specs.Predicates.{Recorded}
use Rattle.def_format.specs.Documents.{Document, IsDocument, plain}
use Rattle.def_format.specs.Names.{ProcessNames}
use Rattle.def_format.specs.Readings.{Trace}
use Rattle.def_format.specs.Sessions.{StreamResult, session}
use Rattle.def_judgement.specs.Judgements.{AreResultsOf, ended_streams, events_of_traces, recorded_of}
use Rattle.def_orders.specs.Orders.{IsOrderOf}
use Rattle.def_orders.specs.Selections.{AreParts, at_places, numbers_in}
use Rattle.def_recordings.specs.Reductions.{IsSamePredicate, no_process}
use Rattle.judge_orders.specs.OrderViews.{named_view, processes_view}
use Rattle.judge_orders.specs.declared.order.Order.{Order}
use Rattle.judge_reduction.specs.ReducedSessions.{texts_view}
use Rattle.judge_reduction.specs.declared.counts.Counts.{Counts}
use Rattle.judge_reduction.specs.declared.reduced.ReducedSession.{ReducedSession}

-- These streams come to these traces.
pub record AreTracesOf (names : List ProcessNames) (streams : List (List ℕ)) (traces : List Trace) : Type 0 where
  pub results : List StreamResult
  pub are_results : AreResultsOf names (ended_streams streams) results
  pub joined : session names (length streams) results ≡ Ok traces

-- The document that was made has the processes at these places of the other one, with their variables and initial
-- values, and its predicates.
pub record AreAlike (places : List ℕ) (made document : Document) : Type 0 where
  pub same_names : made.names ≡ at_places places document.names no_process
  pub same_initial : made.initial ≡ at_places places document.initial []
  pub same_predicates : AllZip (IsSamePredicate (numbers_in places (length document.names))) document.predicates
      made.predicates

-- A computation of which this was recorded, with this many messages, is of this order, and these are its events and its
-- messages.
pub record AreCountsOf (recorded : Recorded) (messages : ℕ) (order : Order) (counts : Counts) : Type 0 where
  pub is_order : IsOrderOf recorded (named_view order) (processes_view order)
  pub all_events : counts.events ≡ total recorded.events
  pub all_messages : counts.messages ≡ messages

-- The traces make a well-formed computation of this order, with this many events and messages.
pub record HaveOrder (document : Document) (traces : List Trace) (order : Order) (counts : Counts) : Type 0 where
  pub formed : IsWellFormed document.version (events_of_traces traces)
  pub is_order : IsOrderOf (recorded_of document traces) (named_view order) (processes_view order)
  pub all_events : counts.events ≡ total (events_of_traces traces)
  pub all_messages : HasMessages (events_of_traces traces) counts.messages

-- The bytes are a document that has the processes at these places of the other one, with their variables and initial
-- values, and its predicates.
pub record IsMadeDocument (document : Document) (places : List ℕ) (bytes : List ℕ) (made : Document) : Type 0 where
  pub is_document : IsDocument (plain bytes) made
  pub alike : AreAlike places made document

-- These streams are a session of this document and this order, with this many events and messages.
pub record AreMadeStreams (made : Document) (order : Order) (streams : List (List ℕ)) (counts : Counts) : Type 0
  where
    pub traces : List Trace
    pub are_traces : AreTracesOf made.names streams traces
    pub have_order : HaveOrder made traces order counts

-- The session is one of this order, with the processes at these places of this document, their initial values and its
-- predicates.
pub record IsMade (document : Document) (places : List ℕ) (order : Order) (session : ReducedSession) : Type 0 where
  pub made : Document
  pub is_made : IsMadeDocument document places session.document.items made
  pub are_made : AreMadeStreams made order (texts_view session.streams.items)
      (record { events = session.events; messages = session.messages })
  pub same_places : session.places.items ≡ places

-- The second order is what the first one says of the processes at these places alone, of which there are some. Of no
-- other process variables are seen.
pub record IsSeenPart (order : Order) (places : List ℕ) (part : Order) : Type 0 where
  pub some : 1 ≤ length places
  pub ascend : AllPairs (λ (p q : ℕ). p < q) places
  pub there : All (λ p. p < length (named_view order)) places
  pub unseen : (p : ℕ) → p < length (named_view order) → (¬ Contains places p)
      → slice_index_or (named_view order) p [] ≡ []
  pub same_named : named_view part ≡ at_places places (named_view order) []
  pub are_parts : (r : Recorded) → IsOrderOf r (named_view order) (processes_view order)
      → AreParts places (processes_view order) (processes_view part)
