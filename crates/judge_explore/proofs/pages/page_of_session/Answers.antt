-- The page of the session, or why it comes to no answers.
use Rattle.std.proofs.Common.{◌≡◌, ◌∙◌, List, Ok, ap, map, subst}
use Rattle.std.specs.Prelude.{IfErr, IfOk}
use Rattle.std.proofs.lemmas.Result.{IfOk-weaker}
use Rattle.def_format.specs.Reports.{Report}
use Rattle.pd_gather.specs.Views.{results_view, traces_view}
use Rattle.def_judgement.specs.Judgements.{IsJudgement, IsReportOfResults, IsTracesReport, RawStream, events_of_traces}
use Rattle.def_model.specs.Events.{Computation}
use Rattle.out_page.specs.Views.{sources_view}
use Rattle.out_page.specs.declared.source.Source.{Source}
use Rattle.pd_spec.specs.Views.{document_view}
use Rattle.judge_session.specs.Inquiries.{inquiry_view}
use Rattle.pd_engine.specs.Ends.{IsGiven}
use Rattle.judge_session.specs.SessionReports.{IsReportOfInputs}
use Rattle.judge_session.specs.Unanswered.{IsUnanswered}
use Rattle.judge_session.proofs.SessionReports.{inputs_report, refusal_given, refused_inputs_report, traces_report}
use Rattle.judge_session.proofs.FitTraces.{same_events}
use Rattle.read_traces.specs.Views.{computation_view}
use Rattle.read_traces.specs.declared.event.Trace.{Trace}
use Rattle.judge_explore.specs.FileViews.{files_view}
use Rattle.judge_explore.specs.Forms.{form_view}
use Rattle.judge_explore.specs.Sources.{sources_of}
use Rattle.judge_explore.specs.Explored.{IsPageOfInputs, IsPageOfTraces}
use Rattle.judge_explore.proofs.SessionPages.{inputs_page, refused_weaker}
use Rattle.judge_explore.proofs.pages.page_of_session.Goals as goal

pub returns-in_err-spec-clause-refused : goal.returns-in_err-spec-clause-refused
returns-in_err-spec-clause-refused g c =
    let asked = inquiry_view c.args.inquiry in
    let inputs = map g.R.ByteSource.left c.args.readers.items in
    refusal_given c.from_residual.result c.in_err-spec.field-0.0
    (λ (report : Report). (streams : List RawStream) → IsJudgement asked streams report)
    (IsReportOfInputs asked inputs)
    (refused_inputs_report asked inputs) c.from_residual.ensures.1
    c.in_err-spec.ensures.refused

pub returns-in_err-traces-clause-refused : goal.returns-in_err-traces-clause-refused
returns-in_err-traces-clause-refused g c =
    let asked = inquiry_view c.args.inquiry in
    let inputs = map g.R.ByteSource.left c.args.readers.items in
    let document = document_view c.in_ok-spec.spec in
    let count = c.in_ok-gathered.gathered.streams in
    let results = results_view c.in_ok-gathered.gathered.readings.items in
    refusal_given c.from_residual-in_err-traces.result c.in_err-traces.field-0.0
    (IsReportOfResults document count results) (IsReportOfInputs asked inputs)
    (λ report right. inputs_report asked inputs document count results report
    c.in_ok-spec.ensures.read c.in_ok-gathered.ensures.given right)
    c.from_residual-in_err-traces.ensures.1 c.in_err-traces.ensures.refused

pub returns-clause-page : goal.returns-clause-page
returns-clause-page g c =
    let asked = inquiry_view c.args.inquiry in
    let form = form_view c.args.form in
    let files = files_view c.args.files.now in
    let inputs = map g.R.ByteSource.left c.args.readers.items in
    let document = document_view c.in_ok-spec.spec in
    let count = c.in_ok-gathered.gathered.streams in
    let results = results_view c.in_ok-gathered.gathered.readings.items in
    let traces = traces_view c.in_ok-traces.traces.items in
    let sources = sources_view c.in_ok-sources.sources.items in
    let recorded : sources ≡ sources_of document.names files 0 (events_of_traces traces) =
    c.in_ok-sources.ensures
    ∙ ap (λ (all : List Trace). sources_of document.names files 0 (computation_view all)) c.deref.ensures.value
    ∙ ap (λ (events : Computation). sources_of document.names files 0 events)
    (same_events c.in_ok-traces.traces.items) in
    IfOk-weaker c.page_of_traces.result
    (λ page. IsPageOfTraces document form sources traces (IsGiven (Ok page.report)) page.text.items)
    (λ page. IsPageOfInputs asked form files inputs (IsGiven (Ok page.report)) page.text.items)
    (λ page is. inputs_page asked form files inputs document count results sources traces
    (IsGiven (Ok page.report)) page.text.items
    c.in_ok-spec.ensures.read c.in_ok-gathered.ensures.given c.in_ok-traces.ensures.joined recorded is)
    (subst (λ (all : List Trace). IfOk c.page_of_traces.result
    (λ page. IsPageOfTraces document form sources (traces_view all) (IsGiven (Ok page.report)) page.text.items))
    c.deref-3.ensures.value
    (subst (λ (found : List Source). IfOk c.page_of_traces.result
    (λ page. IsPageOfTraces document form (sources_view found) (traces_view c.deref-3.result.now)
    (IsGiven (Ok page.report)) page.text.items)) c.deref-2.ensures.value c.page_of_traces.ensures.page))

pub returns-clause-refused : goal.returns-clause-refused
returns-clause-refused g c =
    let asked = inquiry_view c.args.inquiry in
    let inputs = map g.R.ByteSource.left c.args.readers.items in
    let document = document_view c.in_ok-spec.spec in
    let count = c.in_ok-gathered.gathered.streams in
    let results = results_view c.in_ok-gathered.gathered.readings.items in
    let traces = traces_view c.in_ok-traces.traces.items in
    refused_weaker c.page_of_traces.result (IsTracesReport document traces)
    (IsReportOfInputs asked inputs)
    (λ report right. inputs_report asked inputs document count results report
    c.in_ok-spec.ensures.read c.in_ok-gathered.ensures.given
    (traces_report document count results traces report c.in_ok-traces.ensures.joined right))
    (subst (λ (all : List Trace). IfErr c.page_of_traces.result
    (IsUnanswered (IsTracesReport document (traces_view all)))) c.deref-3.ensures.value
    c.page_of_traces.ensures.refused)
