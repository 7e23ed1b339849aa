-- What is found of a refused session.
use Rattle.std.proofs.Common.{map}
use Rattle.judge_check.specs.Views.{finding_view}
use Rattle.pd_report.specs.Views.{refusal_view, report_view}
use Rattle.judge_session.specs.Inquiries.{inquiry_view}
use Rattle.judge_draw.proofs.SessionFindings.{refusal_found}
use Rattle.judge_draw.proofs.checks.find_claimed.Goals as goal

pub returns-in-Refused-clause-found : goal.returns-in-Refused-clause-found
returns-in-Refused-clause-found g c =
    refusal_found (inquiry_view c.args.inquiry) (map g.R.ByteSource.left c.args.streams.items)
    (refusal_view c.in-Refused.refusal) (report_view c.args.claimed.now) (finding_view c.find_refused.result)
    (rw c.in-Refused.is at c.in-Err.ensures.refused) c.find_refused.ensures
