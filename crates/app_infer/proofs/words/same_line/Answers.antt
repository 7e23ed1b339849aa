-- The line of two streams of one process, part by part.
use Rattle.std.proofs.Common.{◌∙◌, ◌++◌, ℕ, List, ap, append_assoc}
use Rattle.std.specs.Prelude.{codes}
use Rattle.app_infer.specs.Inferences.{refused_line}
use Rattle.app_infer.proofs.words.same_line.Goals as goal

pub returns : goal.returns
unfolding refused_line
returns c =
    let head = codes "monitor: no document: " in
    let joint = codes ": it is of the same process as " in
    c.in_ok-push_bytes-3.ensures.ok
    ∙ ap (λ (line : List ℕ). line ++ codes "\n")
    (c.in_ok-push_bytes-2.ensures.ok
    ∙ ap (λ (name : List ℕ). c.push_bytes.new.out.items ++ name) c.as_bytes.ensures.value
    ∙ ap (λ (line : List ℕ). line ++ c.args.first.now) (c.in_ok-push_bytes.ensures.ok
    ∙ ap (λ (line : List ℕ). line ++ joint) c.in_ok-out.ensures)
    ∙ ap (λ (line : List ℕ). line ++ c.args.first.now) (append_assoc head c.args.second.now joint)
    ∙ append_assoc head (c.args.second.now ++ joint) c.args.first.now)
