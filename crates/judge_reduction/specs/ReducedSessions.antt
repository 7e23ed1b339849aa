-- What a reduced session is.
use Rattle.std.specs.Prelude.{◌≡◌, ℕ, ◌≤◌, List, Vec, length, map}
use Rattle.std.specs.Global.{Global}
use Rattle.def_model.specs.Cuts.{total}
use Rattle.def_model.specs.Messages.{HasMessages}
use Rattle.def_model.specs.Order.{HasNoCycle}
use Rattle.def_model.specs.Predicates.{Recorded}
use Rattle.def_format.specs.Documents.{Document}
use Rattle.def_recordings.specs.Reductions.{IsReducedSession}
use Rattle.judge_orders.specs.OrderViews.{HasOrder}
use Rattle.judge_orders.specs.declared.order.Order.{Order}
use Rattle.judge_reduction.specs.declared.reduced.ReducedSession.{ReducedSession}

-- the bytes of each text
abbrev pub texts_view : List (Vec ℕ Global) → List (List ℕ)
texts_view texts = map (λ text. text.items) texts

-- The texts are a session that has the answers of a run of this document, with its processes at these places, and these
-- are its events and its messages.
pub record IsReductionOf (document : Document) (recorded : Recorded) (session : ReducedSession) : Type 0 where
  pub reduced : IsReducedSession document recorded session.document.items (texts_view session.streams.items)
  pub same_places : session.places.items ≡ reduced.places
  pub all_events : session.events ≡ total reduced.image.events
  pub all_messages : HasMessages reduced.image.events session.messages

-- It is a session that has the answers of each run of this document that has this order.
abbrev pub ReducesRuns : Document → Order → ReducedSession → Type 0
ReducesRuns document order session =
    (r : Recorded) → 1 ≤ length r.events → length document.names ≡ length r.events
    → length document.initial ≡ length r.events → r.initial ≡ document.initial → HasNoCycle r.events
    → HasOrder document r order → IsReductionOf document r session
