-- The data, part by part.
use Rattle.std.proofs.Common.{◌∙◌, ◌++◌, List, ℕ, ap, sym}
use Rattle.std.specs.Prelude.{codes}
use Rattle.pd_match.specs.Views.{pairs_view}
use Rattle.out_page.specs.Written.{extras_text, limits_text, report_text, run_text, session_text, sources_text}
use Rattle.out_page.specs.Views.{extras_view, outcome_view, sources_view}
use Rattle.out_page.proofs.Parts.{seven_parts}
use Rattle.out_page.proofs.WrittenData.{data_is}
use Rattle.pd_spec.specs.Views.{document_view}
use Rattle.read_traces.specs.Views.{computation_view}
use Rattle.out_page.proofs.page_data.push_data.Goals as goal

pub returns : goal.returns
returns c =
    let content = c.args.content.now in
    let document = document_view content.spec.now in
    seven_parts c.args.out.now.items c.push_limits.new.out.items c.push_extras.new.out.items
    c.push_session.new.out.items
    c.push_recorded.new.out.items c.push_run.new.out.items c.push_report.new.out.items c.push_bytes.new.out.items
    (limits_text document) (extras_text document (extras_view content.extras.now)) (session_text document)
    (sources_text (sources_view content.sources.now))
    (run_text (computation_view content.traces.now) (pairs_view content.pairs.now))
    (report_text document (outcome_view content.outcome)) (codes "}\n") c.in_ok-push_limits.ensures
    c.in_ok-push_extras.ensures
    c.in_ok-push_session.ensures c.in_ok-push_recorded.ensures c.in_ok-push_run.ensures c.in_ok-push_report.ensures
    c.in_ok-push_bytes.ensures.ok
    ∙ ap (λ (text : List ℕ). c.args.out.now.items ++ text) (sym (data_is document (extras_view content.extras.now)
    (sources_view content.sources.now) (computation_view content.traces.now) (pairs_view content.pairs.now)
    (outcome_view content.outcome)))
