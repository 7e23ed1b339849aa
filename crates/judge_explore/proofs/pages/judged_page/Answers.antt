-- What is made of a session's traces that are judged.
use Rattle.std.proofs.Common.{◌≡◌, Ok, length, map, subst, sym}
use Rattle.std.specs.Prelude.{IfOk}
use Rattle.def_model.specs.Cuts.{total}
use Rattle.def_format.specs.Reports.{Judged}
use Rattle.out_json.specs.JsonReports.{json_text_at}
use Rattle.out_page.specs.AnswerData.{Answered}
use Rattle.out_page.specs.Pages.{page_text}
use Rattle.out_page.specs.Views.{extras_view, sources_view}
use Rattle.pd_engine.specs.Ends.{IsGiven}
use Rattle.pd_gather.specs.Views.{traces_view}
use Rattle.pd_match.specs.Views.{pairs_view}
use Rattle.pd_report.specs.Views.{answer_view, report_view}
use Rattle.pd_spec.specs.Views.{document_view}
use Rattle.read_traces.specs.Views.{computation_view}
use Rattle.judge_explore.specs.Explored.{IsPageOfTraces, Object, Page}
use Rattle.judge_explore.specs.Forms.{form_view}
use Rattle.judge_explore.specs.declared.form.Form.{Form}
use Rattle.judge_explore.specs.Known.{known_by}
use Rattle.judge_explore.proofs.SessionPages.{answered_made, both_made, object_is, page_is}
use Rattle.judge_explore.proofs.pages.judged_page.Goals as goal

pub returns-in-Page : goal.returns-in-Page
returns-in-Page g c =
    let document = document_view c.args.spec.now in
    let extras = extras_view c.in-Page.extras.now in
    let sources = sources_view c.args.sources.now in
    let traces = c.args.traces.now in
    let pairs = pairs_view c.args.pairs.now in
    let recorded = c.args.built.now.0 in
    let count = c.args.built.now.1 in
    let answers = map answer_view c.in_ok-answers.answers.items in
    subst (λ (form : Form). IfOk c.answered_page.result (λ page. IsPageOfTraces document (form_view form) sources
    (traces_view traces) (IsGiven (Ok page.report)) page.text.items)) (sym c.in-Page.is)
    (both_made c.answered_page.result
    (λ page. report_view page.report ≡ Judged (length document.names) (total recorded.events) count answers)
    (λ page. page.text.items ≡ page_text document extras sources (computation_view traces) pairs (Answered answers))
    (λ page. IsPageOfTraces document (Page extras) sources (traces_view traces) (IsGiven (Ok page.report))
    page.text.items)
    (λ page is text. answered_made document (Page extras) sources traces recorded count pairs answers page.report
    page.text.items c.requires.formed c.requires.listed c.in_ok-answers.ensures is
    (page_is document extras sources traces pairs count (Answered answers) page.text.items text))
    c.answered_page.ensures.report c.answered_page.ensures.text)

pub returns-in-Object : goal.returns-in-Object
returns-in-Object g c =
    let document = document_view c.args.spec.now in
    let sources = sources_view c.args.sources.now in
    let traces = c.args.traces.now in
    let pairs = pairs_view c.args.pairs.now in
    let recorded = c.args.built.now.0 in
    let count = c.args.built.now.1 in
    let answers = map answer_view c.in_ok-answers.answers.items in
    subst (λ (form : Form). IfOk c.answered_object.result (λ page. IsPageOfTraces document (form_view form) sources
    (traces_view traces) (IsGiven (Ok page.report)) page.text.items)) (sym c.in-Object.is)
    (both_made c.answered_object.result
    (λ page. report_view page.report ≡ Judged (length document.names) (total recorded.events) count answers)
    (λ page. page.text.items ≡ json_text_at document.names (known_by document.names document.predicates sources
    recorded) (report_view page.report))
    (λ page. IsPageOfTraces document Object sources (traces_view traces) (IsGiven (Ok page.report)) page.text.items)
    (λ page is text. answered_made document Object sources traces recorded count pairs answers page.report
    page.text.items c.requires.formed c.requires.listed c.in_ok-answers.ensures is
    (object_is document sources traces recorded count pairs answers (report_view page.report) page.text.items
    c.requires.formed is text))
    c.answered_object.ensures.report c.answered_object.ensures.text)
