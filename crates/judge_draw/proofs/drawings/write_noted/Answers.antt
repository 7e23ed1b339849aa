-- The text is that of the picture with its labels.
use Rattle.std.proofs.Common.{◌≡◌, ℕ, List}
use Rattle.def_judgement.proofs.Writing.{writes_weaker}
use Rattle.judge_session.specs.Ends.{call_end}
use Rattle.out_svg.specs.Svg.{drawing_text}
use Rattle.judge_draw.specs.Drawings.{IsTextWithNotes}
use Rattle.judge_draw.proofs.drawings.write_noted.Goals as goal

pub returns-clause-written : goal.returns-clause-written
returns-clause-written g c =
    writes_weaker (λ (text : List ℕ). text ≡ drawing_text c.in_ok-drawing.drawing)
    (IsTextWithNotes c.args.is_noted c.args.picture.drawing) (call_end c.write_picture.result)
    (g.W.Write.contents c.args.writer.now) (g.W.Write.contents c.write_picture.new.writer)
    (λ text owed. record { drawing = c.in_ok-drawing.drawing; adds = c.in_ok-drawing.ensures; is_text = owed })
    c.write_picture.ensures.written
