-- What is found of a report's bytes.
use Rattle.std.proofs.Common.{ℕ, Err, ap, map, sym, subst}
use Rattle.std.proofs.lemmas.Result.{IfOk-weaker}
use Rattle.judge_check.specs.Views.{finding_view}
use Rattle.def_format.specs.OtherTexts.{NotRead}
use Rattle.pd_report.specs.Views.{report_view}
use Rattle.judge_draw.specs.Checks.{Finds, FindsOf}
use Rattle.judge_session.specs.Inquiries.{inquiry_view}
use Rattle.judge_draw.proofs.SessionFindings.{report_found, unread_found}
use Rattle.judge_draw.proofs.checks.finding_of.Goals as goal

pub returns-in-Ok-clause-found : goal.returns-in-Ok-clause-found
returns-in-Ok-clause-found g c =
    let inputs = map g.R.ByteSource.left c.args.streams.items in
    IfOk-weaker c.find_claimed.result (λ finding. FindsOf (inquiry_view c.args.inquiry)
    (report_view c.in-Ok.claimed) inputs (finding_view finding)) (λ finding. Finds
    (inquiry_view c.args.inquiry) c.args.report.now inputs
    (finding_view finding))
    (λ finding found. report_found (inquiry_view c.args.inquiry) c.args.report.now inputs
    (report_view c.in-Ok.claimed)
    (finding_view finding) c.in-Ok.ensures.reported found)
    c.find_claimed.ensures.found

pub returns-in-Err-Line-clause-found : goal.returns-in-Err-Line-clause-found
returns-in-Err-Line-clause-found g c =
    let inputs = map g.R.ByteSource.left c.args.streams.items in
    subst (λ (line : ℕ). Finds (inquiry_view c.args.inquiry) c.args.report.now inputs (NotRead line))
    (sym c.in-Err-Line.line-is)
    (unread_found (inquiry_view c.args.inquiry) c.args.report.now inputs c.in-Err-Line.line
    (c.in-Err-Line.ensures.line c.in-Err-Line.line (ap Err c.in-Err-Line.field-0-is)))
