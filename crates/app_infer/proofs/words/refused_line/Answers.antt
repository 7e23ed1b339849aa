-- The line of a stream that is refused, part by part.
use Rattle.std.proofs.Common.{◌∙◌, ◌++◌, ℕ, List, ap, append_assoc}
use Rattle.std.specs.Prelude.{codes}
use Rattle.app_infer.specs.Inferences.{refused_line}
use Rattle.judge_infer.specs.Inferred.{placed_words, wrong_words}
use Rattle.judge_infer.specs.Views.{wrong_view}
use Rattle.app_infer.proofs.words.refused_line.Goals as goal

pub returns : goal.returns
unfolding refused_line
returns c =
    let head = codes "monitor: no document: " in
    let placed = placed_words c.args.fault.line (wrong_words (wrong_view c.args.fault.wrong)) in
    c.in_ok-push_bytes.ensures.ok
    ∙ ap (λ (line : List ℕ). line ++ codes "\n")
    (c.in_ok-push_placed.ensures
    ∙ ap (λ (words : List ℕ). c.in_ok-out.out.items ++ placed_words c.args.fault.line words) c.wrong_words.ensures
    ∙ ap (λ (line : List ℕ). line ++ placed) c.in_ok-out.ensures
    ∙ append_assoc head c.args.name.now placed)
