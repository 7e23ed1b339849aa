-- That it is unknown, part by part.
use Rattle.std.specs.Prelude.{codes, decimal}
use Rattle.out_page.specs.AnswerData.{unknown_text}
use Rattle.out_page.proofs.Parts.{three_parts}
use Rattle.out_page.proofs.answer_data.push_unknown.Goals as goal

pub returns : goal.returns
unfolding unknown_text
returns c =
    three_parts c.args.out.now.items c.push_bytes.new.out.items c.push_number.new.out.items
    c.push_bytes-2.new.out.items (codes "[\"unknown\",") (decimal c.args.level) (codes "]")
    c.in_ok-push_bytes.ensures.ok c.in_ok-push_number.ensures.ok c.in_ok-push_bytes-2.ensures.ok
