-- The kind and the number, part by part.
use Rattle.std.proofs.Common.{◌∙◌, ◌++◌, ℕ, List, ap, map}
use Rattle.std.specs.Prelude.{codes, decimal}
use Rattle.out_page.specs.ExtraData.{predicate_number, wish_text}
use Rattle.out_page.specs.JsonTexts.{quoted}
use Rattle.out_page.specs.Views.{kind_word}
use Rattle.pd_spec.specs.Named.{named_view}
use Rattle.out_page.proofs.Parts.{five_parts}
use Rattle.out_page.proofs.extra_data.push_wish.Goals as goal

pub returns : goal.returns
unfolding wish_text
returns c =
    let predicates = map named_view c.args.predicates.now in
    five_parts c.args.out.now.items c.push_bytes.new.out.items c.push_bytes-2.new.out.items
    c.push_bytes-3.new.out.items c.push_index.new.out.items c.push_bytes-4.new.out.items (codes "[")
    (quoted (kind_word c.args.wish.kind)) (codes ",")
    (decimal (predicate_number predicates c.args.wish.name.now)) (codes "]") c.in_ok-push_bytes.ensures.ok
    (c.in_ok-push_bytes-2.ensures.ok
    ∙ ap (λ (word : List ℕ). c.push_bytes.new.out.items ++ word) c.kind_text.ensures)
    c.in_ok-push_bytes-3.ensures.ok
    (c.in_ok-push_index.ensures
    ∙ ap (λ (n : ℕ). c.push_bytes-3.new.out.items ++ decimal n) c.predicate_number.ensures)
    c.in_ok-push_bytes-4.ensures.ok
