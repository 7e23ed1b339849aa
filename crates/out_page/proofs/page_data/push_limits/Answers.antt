-- The width and what is asked for, part by part.
use Rattle.std.proofs.Common.{◌∙◌, ◌++◌, ℕ, List, ap}
use Rattle.std.specs.Prelude.{codes, decimal}
use Rattle.out_page.specs.Pages.{truth_text}
use Rattle.out_page.specs.Written.{limits_text}
use Rattle.out_page.proofs.Parts.{four_parts}
use Rattle.pd_spec.specs.Views.{document_view}
use Rattle.out_page.proofs.page_data.push_limits.Goals as goal

pub returns : goal.returns
unfolding limits_text
returns c =
    let document = document_view c.args.spec.now in
    four_parts c.args.out.now.items c.push_bytes.new.out.items c.push_number.new.out.items
    c.push_bytes-2.new.out.items c.push_bytes-3.new.out.items (codes "{\"format\":1,\n\"width\":")
    (decimal document.width) (codes ",\n\"beyond_width\":") (truth_text document.beyond_width)
    c.in_ok-push_bytes.ensures.ok
    (c.in_ok-push_number.ensures.ok ∙ ap (λ (n : ℕ). c.push_bytes.new.out.items ++ decimal n) c.width.ensures)
    c.in_ok-push_bytes-2.ensures.ok
    (c.in_ok-push_bytes-3.ensures.ok
    ∙ ap (λ (text : List ℕ). c.push_bytes-2.new.out.items ++ text)
    (c.truth_text.ensures ∙ ap truth_text c.beyond_width.ensures))
