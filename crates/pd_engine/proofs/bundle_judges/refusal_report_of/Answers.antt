-- The refusal of the document is the bundle's report, whatever its other parts are.
use Rattle.std.proofs.Common.{Bool, true, false, List, [], ◌∷◌, subst}
use Rattle.read_bundle.specs.Steps.{HasParts}
use Rattle.def_format.specs.Documents.{plain}
use Rattle.def_format.specs.Reports.{Report}
use Rattle.def_judgement.specs.Judgements.{IsJudgement, RawStream}
use Rattle.pd_report.specs.Views.{report_view}
use Rattle.pd_engine.proofs.BundleReads.{refusal_read, settled_right}
use Rattle.pd_engine.proofs.bundle_judges.refusal_report_of.Goals as goal

pub returns-then-begins-clause-report : goal.returns-then-begins-clause-report
returns-then-begins-clause-report g c = λ input document refused parts.
    let here : HasParts true input (g.R.ByteSource.left c.args.reader.now) (document ∷ []) c.args.bundle.now =
    subst (λ (begins : Bool). HasParts begins input (g.R.ByteSource.left c.args.reader.now) (document ∷ [])
    c.args.bundle.now) c.if-begins.true parts in
    let all = c.in_ok-skip_parts.ensures.parts input (document ∷ []) here in
    refusal_read input document all.0 (report_view c.in_ok-report.report) all.2
    (settled_right c.in_ok-report.report c.args.unanswered
    (λ (report : Report). (streams : List RawStream) → IsJudgement (plain document) streams report)
    c.in_ok-report.ensures.given refused)

pub returns-clause-report : goal.returns-clause-report
returns-clause-report g c = λ input document refused parts.
    let here : HasParts false input (g.R.ByteSource.left c.args.reader.now) (document ∷ []) c.args.bundle.now =
    subst (λ (begins : Bool). HasParts begins input (g.R.ByteSource.left c.args.reader.now) (document ∷ [])
    c.args.bundle.now) c.if-begins.false parts in
    refusal_read input document [] (report_view c.in_ok-report-2.report) here
    (settled_right c.in_ok-report-2.report c.args.unanswered
    (λ (report : Report). (streams : List RawStream) → IsJudgement (plain document) streams report)
    c.in_ok-report-2.ensures.given refused)
