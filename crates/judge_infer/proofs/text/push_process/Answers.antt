-- A process with its variables, part by part.
use Rattle.std.proofs.Common.{◌∙◌, ◌++◌, ℕ, List, ap, map}
use Rattle.std.specs.Prelude.{String, codes, string_bytes}
use Rattle.std.specs.Global.{Global}
use Rattle.judge_infer.specs.DocumentParts.{process_text, vars_text}
use Rattle.judge_infer.proofs.Parts.{five_parts}
use Rattle.judge_infer.proofs.text.push_process.Goals as goal

pub returns : goal.returns
unfolding process_text
returns c =
    five_parts c.args.out.now.items c.push_bytes.new.out.items c.push_bytes-2.new.out.items
    c.push_bytes-3.new.out.items c.push_vars.new.out.items c.push_bytes-4.new.out.items (codes "{\"name\":\"")
    (string_bytes c.args.process.now.name) (codes "\",\"vars\":{")
    (vars_text (map string_bytes c.args.process.now.vars.items)) (codes "}}")
    c.in_ok-push_bytes.ensures.ok
    (c.in_ok-push_bytes-2.ensures.ok
    ∙ ap (λ (text : List ℕ). c.push_bytes.new.out.items ++ text) c.as_bytes.ensures.value)
    c.in_ok-push_bytes-3.ensures.ok
    (c.in_ok-push_vars.ensures
    ∙ ap (λ (vars : List (String Global)). c.push_bytes-3.new.out.items ++ vars_text (map string_bytes vars))
    c.deref.ensures.value)
    c.in_ok-push_bytes-4.ensures.ok
