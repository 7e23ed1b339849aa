-- What a run that draws leaves by the bytes that were read.
use Rattle.std.proofs.Common.{map}
use Rattle.judge_session.specs.Inquiries.{inquiry_view}
use Rattle.out_picture.specs.Scopes.{scope_view}
use Rattle.app_draw.proofs.DrawingEnds.{drawing_finished}
use Rattle.app_draw.proofs.draw_report.draw_report.Goals as goal

pub returns-clause-left : goal.returns-clause-left
returns-clause-left g c =
    drawing_finished (inquiry_view c.args.inquiry) c.args.report.now (map g.R.ByteSource.left c.args.streams.items)
    (scope_view c.args.scope.now) c.in_ok-drawing.drawing c.finish.result
    (g.O.Write.contents c.args.output.now) (g.O.Write.contents c.draw.new.writer)
    (g.O.Write.contents c.finish.new.output) c.in_ok-drawing.ensures.written c.in_ok-drawing.ensures.shown
    c.finish.ensures
