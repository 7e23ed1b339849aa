-- What stands against the picture of a refused session.
use Rattle.std.proofs.Common.{map}
use Rattle.judge_check.specs.Views.{finding_view}
use Rattle.out_picture.specs.Scopes.{scope_view}
use Rattle.pd_report.specs.Views.{refusal_view, report_view}
use Rattle.judge_session.specs.Inquiries.{inquiry_view}
use Rattle.judge_draw.proofs.SessionDrawings.{refusal_drawn}
use Rattle.judge_draw.proofs.drawings.draw_claimed.Goals as goal

pub returns-in-Refused-clause-drawn : goal.returns-in-Refused-clause-drawn
returns-in-Refused-clause-drawn g c =
    refusal_drawn (inquiry_view c.args.inquiry) (map g.R.ByteSource.left c.args.streams.items)
    (refusal_view c.in-Refused.refusal) (report_view c.args.claimed.now) (scope_view c.args.scope.now)
    (finding_view c.find_refused.result)
    (rw c.in-Refused.is at c.in-Err.ensures.refused) (rw c.in-Refused.is at c.in-Err.ensures.undrawn)
    c.find_refused.ensures
