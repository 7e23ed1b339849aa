-- The beginning of a case, part by part.
use Rattle.std.proofs.Common.{◌∙◌, ◌++◌, List, ℕ, ap}
use Rattle.std.specs.Prelude.{codes}
use Rattle.out_svg.specs.Escapes.{escape}
use Rattle.judge_results.specs.Results.{case_begin}
use Rattle.judge_results.proofs.Parts.{three_parts}
use Rattle.judge_results.proofs.case.push_begin.Goals as goal

pub returns : goal.returns
unfolding case_begin
returns c =
    three_parts c.args.out.now.items c.push_bytes.new.out.items c.push_escaped.new.out.items
    c.push_bytes-2.new.out.items (codes "<testcase classname=\"monitor\" name=\"") (escape c.args.name.now) (codes "\"")
    c.in_ok-push_bytes.ensures.ok
    (c.in_ok-push_escaped.ensures
    ∙ ap (λ (text : List ℕ). c.push_bytes.new.out.items ++ escape text) c.as_bytes.ensures.value)
    c.in_ok-push_bytes-2.ensures.ok
