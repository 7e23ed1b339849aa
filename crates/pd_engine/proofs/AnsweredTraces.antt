-- The report of a session's traces whose predicates are answered.
use Rattle.std.proofs.Common.{◌≡◌, ℕ, List, length, sym, ap, subst, Ok}
use Rattle.std.specs.Prelude.{Result}
use Rattle.std.specs.List.{AllZip}
use Rattle.def_model.specs.Cuts.{total}
use Rattle.def_model.specs.Predicates.{Recorded}
use Rattle.def_format.specs.Documents.{Document}
use Rattle.def_format.specs.Readings as readings
use Rattle.def_format.specs.Reports as reports
use Rattle.def_format.specs.Sessions.{SessionFault, StreamResult, session}
use Rattle.def_judgement.specs.Judgements.{IsAnswered, IsReportOfResults, IsReportOfSession, IsTracesReport, of_answers}
use Rattle.def_judgement.specs.Judgements as judgements
use Rattle.judge_session.specs.Computations.{AreWellFormed}

-- the report with these answers
pub answers_report : (document : Document) (traces : List readings.Trace) (recorded : Recorded) (count : ℕ)
    (answers : List reports.Answer) → AreWellFormed document traces recorded count
    → AllZip (IsAnswered document recorded) document.predicates answers
    → IsTracesReport document traces
    (reports.Judged (length document.names) (total recorded.events) count answers)
answers_report document traces recorded count answers well answered =
    let zip : AllZip (IsAnswered document (judgements.recorded_of document traces))
    document.predicates answers =
    subst (λ (r : Recorded). AllZip (IsAnswered document r) document.predicates answers)
    well.same answered in
    rw (ap (λ (r : Recorded). total r.events) well.same)
    (of_answers count answers well.formed well.counted zip)

-- the same of streams that make these traces
pub answered_report : (document : Document) (streams : ℕ) (results : List StreamResult) (traces : List readings.Trace)
    (recorded : Recorded) (count processes events : ℕ) (answers : List reports.Answer)
    → session document.names streams results ≡ Ok traces → AreWellFormed document traces recorded count
    → AllZip (IsAnswered document recorded) document.predicates answers
    → processes ≡ length document.names → events ≡ total recorded.events
    → IsReportOfResults document streams results (reports.Judged processes events count answers)
answered_report document streams results traces recorded count processes events answers joined well answered same_names
    same_total =
    subst (λ (r : Result (List readings.Trace) SessionFault). IsReportOfSession document r
    (reports.Judged processes events count answers)) (sym joined)
    (rw (same_names, same_total) (answers_report document traces recorded count answers well answered))
