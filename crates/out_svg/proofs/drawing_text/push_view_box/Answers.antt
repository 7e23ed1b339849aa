-- The part of the plane, number by number.
use Rattle.std.proofs.Common.{◌∙◌, ◌++◌, ℕ, ap}
use Rattle.std.specs.Prelude.{codes, decimal}
use Rattle.out_svg.specs.Svg.{attribute}
use Rattle.out_svg.proofs.Parts.{framed}
use Rattle.out_svg.proofs.drawing_text.push_view_box.Goals as goal

pub returns : goal.returns
unfolding attribute
returns c =
    framed c.args.out.now.items c.push_bytes.new.out.items c.push_number.new.out.items c.push_bytes-2.new.out.items
    c.push_number-2.new.out.items c.push_bytes-3.new.out.items (codes " viewBox=\"0 0 ") (decimal c.args.width)
    (codes " ") (decimal c.args.height) (codes "\"") c.in_ok-push_bytes.ensures.ok
    (c.in_ok-push_number.ensures.ok ∙ ap (λ (n : ℕ). c.push_bytes.new.out.items ++ decimal n) c.from.ensures)
    c.in_ok-push_bytes-2.ensures.ok
    (c.in_ok-push_number-2.ensures.ok ∙ ap (λ (n : ℕ). c.push_bytes-2.new.out.items ++ decimal n) c.from-2.ensures)
    c.in_ok-push_bytes-3.ensures.ok
