-- What is drawn of a report's bytes.
use Rattle.std.proofs.Common.{ℕ, Err, ap, map, sym, subst}
use Rattle.std.proofs.lemmas.Result.{IfOk-weaker}
use Rattle.out_picture.specs.Scopes.{scope_view}
use Rattle.def_format.specs.OtherTexts.{NotRead}
use Rattle.pd_report.specs.Views.{report_view}
use Rattle.judge_draw.specs.Drawings.{Draws, DrawsOf, IsAgainst}
use Rattle.judge_session.specs.Inquiries.{inquiry_view}
use Rattle.judge_draw.proofs.SessionDrawings.{unread_drawn}
use Rattle.judge_draw.proofs.drawings.draw_read.Goals as goal

pub returns-in-Ok-clause-drawn : goal.returns-in-Ok-clause-drawn
returns-in-Ok-clause-drawn g c =
    let inputs = map g.R.ByteSource.left c.args.streams.items in
    IfOk-weaker c.draw_claimed.result (DrawsOf (inquiry_view c.args.inquiry) (report_view c.in-Ok.claimed) inputs
    (scope_view c.args.scope.now)) (Draws (inquiry_view c.args.inquiry) c.args.report.now inputs
    (scope_view c.args.scope.now))
    (λ given draws. draws c.args.report.now c.in-Ok.ensures.reported)
    c.draw_claimed.ensures.drawn

pub returns-in-Err-Line-clause-drawn : goal.returns-in-Err-Line-clause-drawn
returns-in-Err-Line-clause-drawn g c =
    let inputs = map g.R.ByteSource.left c.args.streams.items in
    subst (λ (line : ℕ). IsAgainst (inquiry_view c.args.inquiry) c.args.report.now inputs (scope_view c.args.scope.now)
    (NotRead line)) (sym c.in-Err-Line.line-is)
    (unread_drawn (inquiry_view c.args.inquiry) c.args.report.now inputs (scope_view c.args.scope.now)
    c.in-Err-Line.line
    (c.in-Err-Line.ensures.line c.in-Err-Line.line (ap Err c.in-Err-Line.field-0-is)))
