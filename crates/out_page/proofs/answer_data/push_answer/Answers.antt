-- The answers for one predicate, part by part.
use Rattle.std.proofs.Common.{◌∙◌, ◌++◌, ℕ, List, ap}
use Rattle.std.specs.Prelude.{codes, string_bytes}
use Rattle.out_page.specs.AnswerData.{answer_text, definitely_text, possibly_text}
use Rattle.out_page.specs.JsonTexts.{quoted}
use Rattle.out_page.proofs.Parts.{seven_parts}
use Rattle.pd_report.specs.Views.{definitely_view, possibly_view}
use Rattle.out_page.proofs.answer_data.push_answer.Goals as goal

pub returns : goal.returns
unfolding answer_text
returns c =
    seven_parts c.args.out.now.items c.push_bytes.new.out.items c.push_quoted.new.out.items
    c.push_bytes-2.new.out.items c.push_possibly.new.out.items c.push_bytes-3.new.out.items
    c.push_definitely.new.out.items c.push_bytes-4.new.out.items (codes "{\"name\":")
    (quoted (string_bytes c.args.answer.now.name)) (codes ",\"possibly\":")
    (possibly_text (possibly_view c.args.answer.now.possibly)) (codes ",\"definitely\":")
    (definitely_text c.args.names.now (definitely_view c.args.answer.now.definitely)) (codes "}")
    c.in_ok-push_bytes.ensures.ok
    (c.in_ok-push_quoted.ensures
    ∙ ap (λ (text : List ℕ). c.push_bytes.new.out.items ++ quoted text) c.as_bytes.ensures.value)
    c.in_ok-push_bytes-2.ensures.ok c.in_ok-push_possibly.ensures c.in_ok-push_bytes-3.ensures.ok
    c.in_ok-push_definitely.ensures c.in_ok-push_bytes-4.ensures.ok
