-- The report of the parts that were read one after another is the bundle's.
use Rattle.std.proofs.Common.{ℕ, List, [], ◌∷◌, sym, subst}
use Rattle.read_bundle.specs.PartsRead.{IsKept}
use Rattle.def_format.specs.Documents.{plain}
use Rattle.def_format.specs.Reports.{Report}
use Rattle.def_judgement.specs.Judgements.{IsJudgement, RawStream}
use Rattle.pd_report.specs.declared.report.Report.{Report as Judged}
use Rattle.judge_session.specs.Unanswered.{IsUnanswered, refused_report}
use Rattle.pd_engine.proofs.BundleReads.{long_handed_on, read_handed_on, report_weaker}
use Rattle.judge_session.proofs.SessionReports.{of_given}
use Rattle.pd_engine.proofs.bundle_judges.bundle_report.Goals as goal

pub returns-in_err-document-clause-long : goal.returns-in_err-document-clause-long
returns-in_err-document-clause-long g c = λ reported.
    let input = g.R.ByteSource.left c.args.reader in
    c.in_err-document.ensures.long (long_handed_on c.in_err-document.field-0.0 c.from_residual-in_err-document.result
    c.from_residual-in_err-document.ensures.1 reported) input [] (c.in_ok-bundle.ensures.fresh input)

pub returns-in-Ok-clause-report : goal.returns-in-Ok-clause-report
returns-in-Ok-clause-report g c =
    let input = g.R.ByteSource.left c.args.reader in
    let part = c.in_ok-document.ensures.part in
    let parts = part.goes input [] (c.in_ok-bundle.ensures.fresh input) in
    let kept : IsKept c.deref.result.now part.part =
    subst (λ (kept : List ℕ). IsKept kept part.part) (sym c.deref.ensures.value) part.right in
    report_weaker c.streams_report_of.result
    (λ (report : Judged) right. right input part.part (c.in-Ok.ensures.read part.part kept) parts)
    c.streams_report_of.ensures.report

pub returns-in-Ok-clause-long : goal.returns-in-Ok-clause-long
returns-in-Ok-clause-long g c = λ reported.
    let input = g.R.ByteSource.left c.args.reader in
    let part = c.in_ok-document.ensures.part in
    let parts = part.goes input [] (c.in_ok-bundle.ensures.fresh input) in
    c.streams_report_of.ensures.long reported input (part.part ∷ []) parts

pub returns-clause-report : goal.returns-clause-report
returns-clause-report g c =
    let input = g.R.ByteSource.left c.args.reader in
    let part = c.in_ok-document.ensures.part in
    let parts = part.goes input [] (c.in_ok-bundle.ensures.fresh input) in
    let kept : IsKept c.deref.result.now part.part =
    subst (λ (kept : List ℕ). IsKept kept part.part) (sym c.deref.ensures.value) part.right in
    let refused : IsUnanswered (λ report. (streams : List RawStream) → IsJudgement (plain part.part) streams report)
    c.in-Err.unanswered =
    of_given (refused_report c.in-Err.unanswered)
    (λ (report : Report). (bytes : List ℕ) → IsKept c.deref.result.now bytes → (streams : List RawStream)
    → IsJudgement (plain bytes) streams report)
    (λ (report : Report). (streams : List RawStream) → IsJudgement (plain part.part) streams report)
    (λ (report : Report) any. any part.part kept) c.in-Err.ensures.refused in
    report_weaker c.refusal_report_of.result (λ (report : Judged) right. right input part.part refused parts)
    c.refusal_report_of.ensures.report

pub returns-clause-long : goal.returns-clause-long
returns-clause-long g c = λ reported.
    let input = g.R.ByteSource.left c.args.reader in
    let part = c.in_ok-document.ensures.part in
    let parts = part.goes input [] (c.in_ok-bundle.ensures.fresh input) in
    c.refusal_report_of.ensures.long reported input (part.part ∷ []) parts

pub returns-in_err-document-clause-cause : goal.returns-in_err-document-clause-cause
returns-in_err-document-clause-cause g c = λ reported.
    let input = g.R.ByteSource.left c.args.reader in
    c.in_err-document.ensures.cause (read_handed_on c.in_err-document.field-0.0 c.from_residual-in_err-document.result
    c.from_residual-in_err-document.ensures.1 reported) input [] (c.in_ok-bundle.ensures.fresh input)

pub returns-in-Ok-clause-cause : goal.returns-in-Ok-clause-cause
returns-in-Ok-clause-cause g c = λ reported.
    let input = g.R.ByteSource.left c.args.reader in
    let part = c.in_ok-document.ensures.part in
    let parts = part.goes input [] (c.in_ok-bundle.ensures.fresh input) in
    c.streams_report_of.ensures.cause reported input (part.part ∷ []) parts

pub returns-clause-cause : goal.returns-clause-cause
returns-clause-cause g c = λ reported.
    let input = g.R.ByteSource.left c.args.reader in
    let part = c.in_ok-document.ensures.part in
    let parts = part.goes input [] (c.in_ok-bundle.ensures.fresh input) in
    c.refusal_report_of.ensures.cause reported input (part.part ∷ []) parts
