-- The text, part by part.
use Rattle.std.proofs.Common.{◌∙◌, ◌++◌, [], List, ℕ, ap}
use Rattle.std.specs.Ffi.{without_last}
use Rattle.std.specs.Prelude.{codes, drop}
use Rattle.judge_results.specs.ResultsSoFar.{joined_text}
use Rattle.judge_results.proofs.Parts.{six_parts}
use Rattle.judge_results.proofs.texts.joined_text.Goals as goal

pub returns : goal.returns
unfolding joined_text
returns c =
    six_parts [] c.push_bytes.new.out.items c.push_bytes-2.new.out.items c.push_bytes-3.new.out.items
    c.push_bytes-4.new.out.items c.push_bytes-5.new.out.items c.push_bytes-6.new.out.items
    (without_last c.args.head.now) (codes ",\"reports\":[") (drop 1 c.args.reports.now) (codes "],\"runs\":")
    c.args.runs.now (codes "}\n")
    (c.in_ok-push_bytes.ensures.ok
    ∙ (ap (λ (text : List ℕ). c.new-out.result.items ++ text) c.without_end.ensures
    ∙ ap (λ (text : List ℕ). text ++ without_last c.args.head.now) c.new-out.ensures.items))
    c.in_ok-push_bytes-2.ensures.ok
    (c.in_ok-push_bytes-3.ensures.ok
    ∙ ap (λ (text : List ℕ). c.push_bytes-2.new.out.items ++ text) c.without_begin.ensures)
    c.in_ok-push_bytes-4.ensures.ok c.in_ok-push_bytes-5.ensures.ok c.in_ok-push_bytes-6.ensures.ok
