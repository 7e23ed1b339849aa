-- The files are streams alone, or a report and streams.
use Rattle.std.proofs.Common.{arith}
use Rattle.judge_session.specs.Inquiries.{inquiry_view}
use Rattle.out_picture.specs.Scopes.{scope_view}
use Rattle.app_draw.proofs.FilesChosen.{streams_alone, streams_beside}
use Rattle.app_draw.proofs.draw_files.draw_session.Goals as goal

pub returns-then-branch : goal.returns-then-branch
returns-then-branch g c =
    streams_alone (scope_view c.args.scope.now) (inquiry_view c.args.inquiry) (g.O.Write.contents c.args.output.now)
    (g.O.Write.contents c.draw_own.new.output) g.R.ByteSource.left c.args.files.items c.len.result
    (omega (arith, c.len.ensures, c.args.files.ok.0)) (c.in_ok-are_streams.ensures.yes c.if-branch.true)
    c.draw_own.result c.draw_own.ensures

pub returns : goal.returns
returns g c =
    streams_beside (scope_view c.args.scope.now) (inquiry_view c.args.inquiry) (g.O.Write.contents c.args.output.now)
    (g.O.Write.contents c.draw_claim.new.output) g.R.ByteSource.left c.args.files.items c.len.result
    (omega (arith, c.len.ensures, c.args.files.ok.0)) (c.in_ok-are_streams.ensures.no c.if-branch.false)
    c.draw_claim.result c.draw_claim.ensures
