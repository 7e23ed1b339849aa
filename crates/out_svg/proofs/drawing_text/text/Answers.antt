-- A drawing's text, part by part.
use Rattle.std.proofs.Common.{◌∙◌, ◌++◌, List, ℕ, [], ap}
use Rattle.std.specs.Prelude.{codes, flat_map, string_bytes}
use Rattle.out_svg.specs.Svg.{drawing_text, labelled, pair, root_text, shape_text, style_text}
use Rattle.out_svg.specs.declared.shape.Shape.{Shape}
use Rattle.out_svg.proofs.Parts.{seven_parts}
use Rattle.out_svg.proofs.drawing_text.text.Goals as goal

pub returns : goal.returns
unfolding drawing_text
returns c =
    let drawing = c.args.drawing.now in
    let root = root_text drawing.width drawing.height in
    seven_parts [] c.push_root.new.out.items c.push_labelled.new.out.items c.push_labelled-2.new.out.items
    c.push_bytes.new.out.items c.push_page.new.out.items c.push_shapes.new.out.items c.push_bytes-2.new.out.items root
    (labelled (codes "title") (codes "title") (string_bytes drawing.title))
    (labelled (codes "desc") (codes "description") (string_bytes drawing.description)) style_text
    (codes "<rect class=\"page\"" ++ pair (codes "width") (codes "height") drawing.width drawing.height ++ codes "/>\n")
    (flat_map shape_text drawing.shapes.items) (codes "</svg>\n")
    (c.in_ok-push_root.ensures ∙ ap (λ (out : List ℕ). out ++ root) c.new-out.ensures.items)
    (c.in_ok-push_labelled.ensures
    ∙ ap (λ (text : List ℕ). c.push_root.new.out.items ++ labelled (codes "title") (codes "title") text)
    c.deref.ensures)
    (c.in_ok-push_labelled-2.ensures
    ∙ ap (λ (text : List ℕ). c.push_labelled.new.out.items ++ labelled (codes "desc") (codes "description") text)
    c.deref-2.ensures)
    (c.in_ok-push_bytes.ensures.ok
    ∙ ap (λ (text : List ℕ). c.push_labelled-2.new.out.items ++ text) c.style.ensures)
    c.in_ok-push_page.ensures
    (c.in_ok-push_shapes.ensures
    ∙ ap (λ (shapes : List Shape). c.push_page.new.out.items ++ flat_map shape_text shapes) c.deref-3.ensures.value)
    c.in_ok-push_bytes-2.ensures.ok
