-- The element of a case, part by part.
use Rattle.std.proofs.Common.{◌∙◌, ◌++◌, List, ℕ, ap}
use Rattle.std.specs.Prelude.{codes}
use Rattle.out_svg.specs.Escapes.{escape}
use Rattle.judge_results.specs.Results.{found_text}
use Rattle.judge_results.proofs.Parts.{seven_parts}
use Rattle.judge_results.proofs.case.push_found.Goals as goal

pub returns : goal.returns
unfolding found_text
returns c =
    seven_parts c.args.out.now.items c.push_bytes.new.out.items c.push_bytes-2.new.out.items
    c.push_bytes-3.new.out.items c.push_bytes-4.new.out.items c.push_bytes-5.new.out.items
    c.push_escaped.new.out.items c.push_bytes-6.new.out.items (codes "><") c.args.element.now (codes " type=\"")
    c.args.kind.now (codes "\" message=\"") (escape c.args.words.now) (codes "\"/></testcase>\n")
    c.in_ok-push_bytes.ensures.ok
    (c.in_ok-push_bytes-2.ensures.ok
    ∙ ap (λ (text : List ℕ). c.push_bytes.new.out.items ++ text) c.as_bytes.ensures.value)
    c.in_ok-push_bytes-3.ensures.ok
    (c.in_ok-push_bytes-4.ensures.ok
    ∙ ap (λ (text : List ℕ). c.push_bytes-3.new.out.items ++ text) c.as_bytes-2.ensures.value)
    c.in_ok-push_bytes-5.ensures.ok c.in_ok-push_escaped.ensures
    c.in_ok-push_bytes-6.ensures.ok
