-- What is found of a run whose traces make a well-formed computation.
use Rattle.std.proofs.Common.{◌≡◌, ◌≤◌, ℕ, true, List, inl, inr, map, length, refl, ap, sym, subst, Ok}
use Rattle.std.proofs.lemmas.Option.{IfSome_then}
use Rattle.std.specs.Prelude.{IfSome}
use Rattle.std.specs.List.{AllZip}
use Rattle.def_model.specs.Cuts.{total}
use Rattle.def_model.specs.Order.{HasNoCycle}
use Rattle.def_model.specs.Predicates.{Recorded}
use Rattle.def_format.specs.Documents.{Document, IsDocument, Options, inquiry_of}
use Rattle.def_format.specs.Readings.{Trace}
use Rattle.def_format.specs.Reports.{Answer, Report, Judged}
use Rattle.def_format.specs.Sessions.{StreamResult, session}
use Rattle.def_judgement.specs.Judgements.{IsAnswered}
use Rattle.def_judgement.specs.OneReport.{OneDocument}
use Rattle.def_orders.specs.Laws.{DefinitelyOfOrder, PossiblyOfOrder}
use Rattle.judge_orders.specs.OrderViews.{HasOrder}
use Rattle.judge_orders.specs.declared.order.Order.{Order}
use Rattle.judge_session.specs.Computations.{AreWellFormed}
use Rattle.judge_shared.specs.SharedReports.{AnswersRightly, IsSharedReport}
use Rattle.judge_shared.specs.Sharing.{AreOfRun, AreRight, AreTruths, IsFresh, IsRunOf, IsRunReportOfResults, answers_view, bare, with_answers}
use Rattle.judge_shared.specs.declared.found.Fresh.{Fresh}
use Rattle.pd_engine.proofs.AnsweredTraces.{answered_report}
use Rattle.judge_shared.proofs.FreshTruths.{truths_right}

-- the run of a well-formed computation
pub run_of : (options : Options) (bytes : List ℕ) (order : Order) (document : Document) (traces : List Trace)
    (recorded : Recorded) (count : ℕ) → IsDocument (inquiry_of options bytes) document
    → AreWellFormed document traces recorded count → 1 ≤ length recorded.events → HasNoCycle recorded.events
    → HasOrder document recorded order → IsRunOf options bytes order document recorded
run_of options bytes order document traces recorded count is_document well some no_cycle has_order = record {
  is_document = is_document;
  begins = ap (λ (r : Recorded). r.initial) well.same;
  some = some;
  as_many = well.one_each;
  no_cycle = no_cycle;
  has_order = has_order;
}

-- the report with answers that are right of it
shared_report : (document : Document) (traces : List Trace) (recorded : Recorded) (count : ℕ)
    (found : List Answer) → document.beyond_width ≡ true → AreWellFormed document traces recorded count
    → AllZip (AnswersRightly recorded) document.predicates found
    → IsSharedReport document traces (Judged (length document.names) (total recorded.events) count found)
shared_report document traces recorded count found beyond well right = record {
  beyond = beyond;
  formed = well.formed;
  messages = count;
  answers = found;
  reported =
      ap (λ (r : Recorded). Judged (length document.names) (total r.events) count found) well.same;
  counted = well.counted;
  right =
      subst (λ (r : Recorded). AllZip (AnswersRightly r) document.predicates found) well.same right;
}

-- the same of what the streams gave
shared_results : (document : Document) (streams : ℕ) (outcomes : List StreamResult) (traces : List Trace)
    (recorded : Recorded) (count : ℕ) (found : List Answer) → document.beyond_width ≡ true
    → session document.names streams outcomes ≡ Ok traces
    → AreWellFormed document traces recorded count → AllZip (AnswersRightly recorded) document.predicates found
    → IsRunReportOfResults document streams outcomes
    (Judged (length document.names) (total recorded.events) count found)
shared_results document streams outcomes traces recorded count found beyond joined well right =
    inr (traces, joined, shared_report document traces recorded count found beyond well right)

-- with copies of answers that are known of its order
pub known_results : (options : Options) (bytes : List ℕ) (order : Order) (document : Document) (streams : ℕ)
    (outcomes : List StreamResult) (traces : List Trace) (recorded : Recorded) (count : ℕ) (known copies : List Answer)
    (report : Report) → document.beyond_width ≡ true → session document.names streams outcomes ≡ Ok traces
    → AreWellFormed document traces recorded count → IsRunOf options bytes order document recorded
    → AreRight options bytes order known → copies ≡ map bare known
    → report ≡ Judged (length document.names) (total recorded.events) count copies
    → IsRunReportOfResults document streams outcomes report
known_results options bytes order document streams outcomes traces recorded count known copies report beyond joined
    well is_run right are_bare is =
    subst (IsRunReportOfResults document streams outcomes) (sym is)
    (shared_results document streams outcomes traces recorded count copies beyond joined well
    (subst (λ (found : List Answer). AllZip (AnswersRightly recorded) document.predicates found) (sym are_bare)
    (right document recorded is_run)))

-- with the answers of a judgement
pub own_results : (document : Document) (streams : ℕ) (outcomes : List StreamResult) (traces : List Trace)
    (recorded : Recorded) (count : ℕ) (found : List Answer) (report : Report)
    → session document.names streams outcomes ≡ Ok traces → AreWellFormed document traces recorded count
    → AllZip (IsAnswered document recorded) document.predicates found
    → report ≡ Judged (length document.names) (total recorded.events) count found
    → IsRunReportOfResults document streams outcomes report
own_results document streams outcomes traces recorded count found report joined well answered is =
    subst (IsRunReportOfResults document streams outcomes) (sym is)
    (inl (answered_report document streams outcomes traces recorded count (length document.names)
    (total recorded.events) found joined well answered refl refl))

-- with the answers of a judgement, or others that are right of it
pub given_results : (document : Document) (streams : ℕ) (outcomes : List StreamResult) (traces : List Trace)
    (recorded : Recorded) (count : ℕ) (found : List Answer) (report : Report) → document.beyond_width ≡ true
    → session document.names streams outcomes ≡ Ok traces → AreWellFormed document traces recorded count
    → AreOfRun document recorded found
    → report ≡ Judged (length document.names) (total recorded.events) count found
    → IsRunReportOfResults document streams outcomes report
given_results document streams outcomes traces recorded count found report beyond joined well (inl answered) is =
    own_results document streams outcomes traces recorded count found report joined well answered is
given_results document streams outcomes traces recorded count found report beyond joined well (inr truths) is =
    subst (IsRunReportOfResults document streams outcomes) (sym is)
    (shared_results document streams outcomes traces recorded count found beyond joined well
    (truths.right (ap (λ (r : Recorded). r.initial) well.same)))

-- what is known of a run that was judged
pub judged_fresh : OneDocument → PossiblyOfOrder → DefinitelyOfOrder → (options : Options) (bytes : List ℕ)
    (fresh : Fresh) (document : Document) (streams : ℕ) (outcomes : List StreamResult) (traces : List Trace)
    (recorded : Recorded) (count : ℕ) (found : List Answer) (report : Report) → document.beyond_width ≡ true
    → session document.names streams outcomes ≡ Ok traces → AreWellFormed document traces recorded count
    → IsRunOf options bytes fresh.order document recorded
    → IfSome fresh.answers (λ known. AreTruths document recorded (answers_view known.items))
    → report ≡ Judged (length document.names) (total recorded.events) count found
    → IsFresh options bytes document streams outcomes report fresh
judged_fresh one_document possibly definitely options bytes fresh document streams outcomes traces recorded count found
    report beyond joined well is_run kept is = record {
      recorded = recorded;
      is_run = is_run;
      right =
          IfSome_then fresh.answers kept (λ known truths. truths_right one_document possibly definitely options bytes
          fresh.order document recorded (answers_view known.items) is_run truths);
      shared = shared;
    }
  where
    shared : (given : List Answer) → AllZip (AnswersRightly recorded) document.predicates given
        → IsRunReportOfResults document streams outcomes (with_answers report given)
    shared given right =
        subst (λ (of : Report). IsRunReportOfResults document streams outcomes (with_answers of given)) (sym is)
        (shared_results document streams outcomes traces recorded count given beyond joined well right)
