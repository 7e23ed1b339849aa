-- The tag that opens a picture, part by part.
use Rattle.std.proofs.Common.{◌++◌}
use Rattle.std.specs.Prelude.{codes, decimal}
use Rattle.out_svg.specs.Svg.{attribute, pair, root_text}
use Rattle.out_svg.proofs.Parts.{four_parts}
use Rattle.out_svg.proofs.drawing_text.push_root.Goals as goal

pub returns : goal.returns
unfolding root_text
returns c =
    four_parts c.args.out.now.items c.push_bytes.new.out.items c.push_pair.new.out.items c.push_view_box.new.out.items
    c.push_bytes-2.new.out.items (codes "<svg xmlns=\"http://www.w3.org/2000/svg\"")
    (pair (codes "width") (codes "height") c.args.width c.args.height)
    (attribute (codes "viewBox") (codes "0 0 " ++ decimal c.args.width ++ codes " " ++ decimal c.args.height))
    (codes " role=\"img\" aria-labelledby=\"title description\">\n") c.in_ok-push_bytes.ensures.ok
    c.in_ok-push_pair.ensures c.in_ok-push_view_box.ensures c.in_ok-push_bytes-2.ensures.ok
