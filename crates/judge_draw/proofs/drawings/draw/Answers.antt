-- What is written is the text of the picture, with its labels if there are notes.
use Rattle.std.proofs.Common.{map, true, false}
use Rattle.out_picture.specs.Scopes.{scope_view}
use Rattle.judge_session.specs.Inquiries.{inquiry_view}
use Rattle.judge_draw.proofs.WrittenPictures.{cycle_written, picture_written}
use Rattle.judge_draw.proofs.drawings.draw.Goals as goal

pub returns-in-Picture-clause-written : goal.returns-in-Picture-clause-written
returns-in-Picture-clause-written g c =
    picture_written (inquiry_view c.args.inquiry) c.args.report.now (map g.R.ByteSource.left c.args.streams.items)
    (scope_view c.args.scope.now) true _ (λ none. absurd (cc)) c.in-Picture.picture.drawing
    (g.W.Write.contents c.args.writer.now)
    (g.W.Write.contents c.write_noted.new.writer) c.write_noted.result
    (rw c.in-Picture.is at c.in_ok-drawn.ensures.drawn) c.write_noted.ensures.whole c.write_noted.ensures.written

pub returns-in-Cycle-clause-written : goal.returns-in-Cycle-clause-written
returns-in-Cycle-clause-written g c =
    cycle_written (inquiry_view c.args.inquiry) c.args.report.now (map g.R.ByteSource.left c.args.streams.items)
    (scope_view c.args.scope.now) true _ (λ none. absurd (cc)) c.in-Cycle.picture.drawing
    (g.W.Write.contents c.args.writer.now)
    (g.W.Write.contents c.write_noted-in-Cycle.new.writer) c.write_noted-in-Cycle.result
    (rw c.in-Cycle.is at c.in_ok-drawn.ensures.drawn) c.write_noted-in-Cycle.ensures.whole
    c.write_noted-in-Cycle.ensures.written

pub returns-in-Picture-clause-unnoted : goal.returns-in-Picture-clause-unnoted
returns-in-Picture-clause-unnoted g c empty =
    picture_written (inquiry_view c.args.inquiry) c.args.report.now (map g.R.ByteSource.left c.args.streams.items)
    (scope_view c.args.scope.now) false _ (λ none. c.are_notes-is_noted.ensures.none empty) c.in-Picture.picture.drawing
    (g.W.Write.contents c.args.writer.now)
    (g.W.Write.contents c.write_noted.new.writer) c.write_noted.result
    (rw c.in-Picture.is at c.in_ok-drawn.ensures.drawn) c.write_noted.ensures.whole c.write_noted.ensures.written

pub returns-in-Cycle-clause-unnoted : goal.returns-in-Cycle-clause-unnoted
returns-in-Cycle-clause-unnoted g c empty =
    cycle_written (inquiry_view c.args.inquiry) c.args.report.now (map g.R.ByteSource.left c.args.streams.items)
    (scope_view c.args.scope.now) false _ (λ none. c.are_notes-is_noted.ensures.none empty) c.in-Cycle.picture.drawing
    (g.W.Write.contents c.args.writer.now)
    (g.W.Write.contents c.write_noted-in-Cycle.new.writer) c.write_noted-in-Cycle.result
    (rw c.in-Cycle.is at c.in_ok-drawn.ensures.drawn) c.write_noted-in-Cycle.ensures.whole
    c.write_noted-in-Cycle.ensures.written
