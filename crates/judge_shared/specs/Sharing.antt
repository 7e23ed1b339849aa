-- Answers that runs of one order share.
use Rattle.std.specs.Prelude.{Vec, slice_index_or, ◌<◌, ◌≡◌, ◌≤◌, ◌⊎◌, ℕ, Bool, true, false, ◌&&◌, List, [], All, IfSome, length, map, Option, Ok}
use Rattle.std.specs.List.{AllZip, list_all}
use Rattle.def_model.specs.Order.{HasNoCycle}
use Rattle.def_model.specs.Predicates.{Recorded}
use Rattle.def_format.specs.Documents.{Document, IsDocument, Options, inquiry_of}
use Rattle.def_format.specs.Readings.{Trace}
use Rattle.def_format.specs.Reports.{Answer, Definitely, Possibly, Report, Judged, Refused}
use Rattle.def_format.specs.Sessions.{StreamResult, session}
use Rattle.def_judgement.specs.Judgements.{IsAnswered, IsReportOfResults}
use Rattle.judge_orders.specs.OrderViews.{HasOrder, named_view, processes_view}
use Rattle.judge_orders.specs.declared.order.Order.{Order}
use Rattle.judge_session.specs.Computations.{AreWellFormed}
use Rattle.judge_shared.specs.SharedReports.{AnswersRightly, IsSharedReport}
use Rattle.judge_shared.specs.declared.found.Found.{Found}
use Rattle.judge_shared.specs.declared.found.Fresh.{Fresh}
use Rattle.judge_shared.specs.declared.orders.Entry.{Entry}
use Rattle.judge_shared.specs.declared.orders.Orders.{Orders}
use Rattle.pd_report.specs.Views.{answer_view, report_view}
use Rattle.pd_report.specs.declared.answer.Answer as answers
use Rattle.std.specs.declared.alloc.Global.{Global}

-- ---- answers without evidence

abbrev pub bare_possibly : Possibly → Possibly
bare_possibly (Possibly.Yes cut) = Possibly.Yes []
bare_possibly Possibly.No = Possibly.No
bare_possibly (Possibly.Unknown level) = Possibly.Unknown level

abbrev pub bare_definitely : Definitely → Definitely
bare_definitely (Definitely.Yes level) = Definitely.Yes 0
bare_definitely (Definitely.No path) = Definitely.No []
bare_definitely (Definitely.Unknown level) = Definitely.Unknown level

abbrev pub bare : Answer → Answer
bare answer = record {
  name = answer.name;
  possibly = bare_possibly answer.possibly;
  definitely = bare_definitely answer.definitely;
}

-- whether both questions have an answer
abbrev pub is_possibly_known : Possibly → Bool
is_possibly_known (Possibly.Unknown level) = false
is_possibly_known _ = true

abbrev pub is_definitely_known : Definitely → Bool
is_definitely_known (Definitely.Unknown level) = false
is_definitely_known _ = true

abbrev pub is_known : Answer → Bool
is_known answer = is_possibly_known answer.possibly && is_definitely_known answer.definitely

abbrev pub answers_view : List answers.Answer → List Answer
answers_view found = map answer_view found

-- a report with these answers in place of its own, if it has any
abbrev pub with_answers : Report → List Answer → Report
with_answers (Judged processes events messages own) found = Judged processes events messages found
with_answers (Refused refusal) found = Refused refusal

-- ---- what holds of runs of an order

-- The bytes of a document, with what is asked beside them, hold this document; and this was recorded of its processes,
-- with no cycle, and has this order.
pub record IsRunOf (options : Options) (bytes : List ℕ) (order : Order) (document : Document) (recorded : Recorded) :
    Type 0 where
  pub is_document : IsDocument (inquiry_of options bytes) document
  pub begins : recorded.initial ≡ document.initial
  pub some : 1 ≤ length recorded.events
  pub as_many : length recorded.events ≡ length document.names
  pub no_cycle : HasNoCycle recorded.events
  pub has_order : HasOrder document recorded order

-- The answers, without evidence, are right of each run of this order.
abbrev pub AreRight : (options : Options) (bytes : List ℕ) (order : Order) (found : List Answer) → Type 0
AreRight options bytes order found =
    (document : Document) (recorded : Recorded) → IsRunOf options bytes order document recorded
    → AllZip (AnswersRightly recorded) document.predicates (map bare found)

abbrev pub AreRightIfKnown : (options : Options) (bytes : List ℕ) (order : Order)
    → Option (Vec answers.Answer Global) → Type 0
AreRightIfKnown options bytes order known =
    IfSome known (λ found. AreRight options bytes order (answers_view found.items))

-- copies of the answers without their evidence, if they are kept, of answers of which none is unknown
abbrev pub AreCopies : Option (Vec answers.Answer Global) → List Answer → Type 0
AreCopies kept found =
    IfSome kept (λ copies. (list_all is_known found ≡ true) × (answers_view copies.items ≡ map bare found))

-- The answers have no evidence, and are right of the run, if it begins with the document's initial values.
pub record AreTruths (document : Document) (recorded : Recorded) (found : List Answer) : Type 0 where
  pub are_bare : map bare found ≡ found
  pub right : recorded.initial ≡ document.initial → AllZip (AnswersRightly recorded) document.predicates found

-- The answers are those of the run's judgement, or are right of it and have no evidence.
abbrev pub AreOfRun : (document : Document) (recorded : Recorded) (found : List Answer) → Type 0
AreOfRun document recorded found =
    AllZip (IsAnswered document recorded) document.predicates found ⊎ AreTruths document recorded found

-- an entry is right
abbrev pub IsEntry : Options → Entry → Type 0
IsEntry options entry = AreRightIfKnown options entry.document.items entry.order entry.answers

-- the entry at this place is of this document and this order
pub record IsAt (entries : List Entry) (bytes : List ℕ) (order : Order) (place : ℕ) : Type 0 where
  pub within : place < length entries
  pub document : (d : Entry) → (slice_index_or entries place d).document.items ≡ bytes
  pub named : (d : Entry) → named_view (slice_index_or entries place d).order ≡ named_view order
  pub processes : (d : Entry) → processes_view (slice_index_or entries place d).order ≡ processes_view order

-- so are all entries
abbrev pub AreSound : Options → Orders → Type 0
AreSound options orders = All (IsEntry options) orders.entries.items

-- ---- what is found of a run

-- The report of this many streams with these outcomes: the one of a judgement, or one with shared answers.
abbrev pub IsRunReportOfResults : Document → ℕ → List StreamResult → Report → Type 0
IsRunReportOfResults document streams outcomes report =
    IsReportOfResults document streams outcomes report
    ⊎ ((traces : List Trace) × (session document.names streams outcomes ≡ Ok traces)
    × IsSharedReport document traces report)

-- What is known of a run of this document that was judged: this order is its own, its answers are right of each run of
-- the order, if they are kept, and with any answers that are right of it the report is one of the run.
pub record IsFresh (options : Options) (bytes : List ℕ) (document : Document) (streams : ℕ)
    (outcomes : List StreamResult) (report : Report) (fresh : Fresh) : Type 0 where
  pub recorded : Recorded
  pub is_run : IsRunOf options bytes fresh.order document recorded
  pub right : AreRightIfKnown options bytes fresh.order fresh.answers
  pub shared : (found : List Answer) → AllZip (AnswersRightly recorded) document.predicates found
      → IsRunReportOfResults document streams outcomes (with_answers report found)

-- This is found of a run of this document, which these bytes hold, by this many streams with these outcomes.
pub record IsFound (options : Options) (bytes : List ℕ) (document : Document) (streams : ℕ)
    (outcomes : List StreamResult) (found : Found) : Type 0 where
  pub is_report : IsRunReportOfResults document streams outcomes (report_view found.report)
  pub fresh : IfSome found.fresh
      (IsFresh options bytes document streams outcomes (report_view found.report))

-- This is found of each run of the document and of this order, of which this was recorded, with this many messages.
abbrev pub IsFoundOfRun : (document : Document) (recorded : Recorded) (messages : ℕ) (order : Order) → Found → Type 0
IsFoundOfRun document recorded messages order found =
    (options : Options) (bytes : List ℕ) (traces : List Trace) (streams : ℕ) (outcomes : List StreamResult)
    → IsDocument (inquiry_of options bytes) document → session document.names streams outcomes ≡ Ok traces
    → AreWellFormed document traces recorded messages → HasOrder document recorded order
    → IsFound options bytes document streams outcomes found
