-- What is made of a session's traces that are refused for a causal cycle.
use Rattle.std.proofs.Common.{◌≡◌, ◌∙◌, Ok, ap, subst, sym}
use Rattle.std.specs.Prelude.{IfOk}
use Rattle.def_format.specs.Reports.{Refused, Report}
use Rattle.def_format.specs.Reports as reports
use Rattle.out_json.specs.JsonReports.{json_text}
use Rattle.out_page.specs.AnswerData.{Cyclic}
use Rattle.out_page.specs.Pages.{page_text}
use Rattle.out_page.specs.Views.{extras_view, sources_view}
use Rattle.pd_engine.specs.Ends.{IsGiven}
use Rattle.pd_gather.specs.Views.{traces_view}
use Rattle.pd_match.specs.Views.{pairs_view}
use Rattle.pd_report.specs.Views.{named_places_view, report_view}
use Rattle.pd_spec.specs.Views.{document_view}
use Rattle.read_traces.specs.Views.{computation_view}
use Rattle.judge_explore.specs.Explored.{IsPageOfTraces, Object, Page}
use Rattle.judge_explore.specs.Forms.{form_view}
use Rattle.judge_explore.specs.declared.form.Form.{Form}
use Rattle.judge_explore.proofs.SessionPages.{both_made, cycle_made, page_is}
use Rattle.judge_explore.proofs.pages.cyclic_page.Goals as goal

pub returns-in-Page : goal.returns-in-Page
returns-in-Page c =
    let document = document_view c.args.spec.now in
    let extras = extras_view c.in-Page.extras.now in
    let sources = sources_view c.args.sources.now in
    let traces = c.args.traces.now in
    let pairs = pairs_view c.args.pairs.now in
    let places = named_places_view c.args.places.items in
    subst (λ (form : Form). IfOk c.cycle_page.result (λ page. IsPageOfTraces document (form_view form) sources
    (traces_view traces) (IsGiven (Ok page.report)) page.text.items)) (sym c.in-Page.is)
    (both_made c.cycle_page.result
    (λ page. report_view page.report ≡ Refused (reports.Cycle places))
    (λ page. page.text.items ≡ page_text document extras sources (computation_view traces) pairs (Cyclic places))
    (λ page. IsPageOfTraces document (Page extras) sources (traces_view traces) (IsGiven (Ok page.report))
    page.text.items)
    (λ page is text. cycle_made document (Page extras) sources traces pairs places page.report page.text.items
    c.requires.listed c.requires.right is
    (page_is document extras sources traces pairs 0 (Cyclic places) page.text.items text))
    c.cycle_page.ensures.report c.cycle_page.ensures.text)

pub returns-in-Object : goal.returns-in-Object
returns-in-Object c =
    let document = document_view c.args.spec.now in
    let sources = sources_view c.args.sources.now in
    let traces = c.args.traces.now in
    let pairs = pairs_view c.args.pairs.now in
    let places = named_places_view c.args.places.items in
    subst (λ (form : Form). IfOk c.cycle_object.result (λ page. IsPageOfTraces document (form_view form) sources
    (traces_view traces) (IsGiven (Ok page.report)) page.text.items)) (sym c.in-Object.is)
    (both_made c.cycle_object.result
    (λ page. report_view page.report ≡ Refused (reports.Cycle places))
    (λ page. page.text.items ≡ json_text document.names (report_view page.report))
    (λ page. IsPageOfTraces document Object sources (traces_view traces) (IsGiven (Ok page.report)) page.text.items)
    (λ page is text. cycle_made document Object sources traces pairs places page.report page.text.items
    c.requires.listed c.requires.right is (text ∙ ap (λ (r : Report). json_text document.names r) is))
    c.cycle_object.ensures.report c.cycle_object.ensures.text)
