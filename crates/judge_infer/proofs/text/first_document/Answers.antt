-- The text of the first document, part by part.
use Rattle.std.proofs.Common.{◌∙◌, ◌++◌, ℕ, List, [], ap, map}
use Rattle.std.specs.Prelude.{Bool, codes}
use Rattle.judge_infer.specs.DocumentParts.{first_document, is_copied, predicates_text, processes_text, version_text}
use Rattle.judge_infer.specs.Views.{process_view}
use Rattle.judge_infer.proofs.Parts.{six_parts}
use Rattle.judge_infer.proofs.text.first_document.Goals as goal

pub returns : goal.returns
unfolding first_document
returns c =
    let head = codes "{\"processes\":[\n  " in
    six_parts [] c.push_bytes.new.out.items c.push_processes.new.out.items c.push_bytes-2.new.out.items
    c.push_predicates.new.out.items c.push_version.new.out.items c.push_bytes-3.new.out.items head
    (processes_text (map process_view c.args.processes.now)) (codes "],\n ") predicates_text
    (version_text (is_copied (map process_view c.args.processes.now))) (codes "}\n")
    (c.in_ok-push_bytes.ensures.ok ∙ ap (λ (out : List ℕ). out ++ head) c.new-out.ensures.items)
    c.in_ok-push_processes.ensures c.in_ok-push_bytes-2.ensures.ok c.in_ok-push_predicates.ensures
    (c.in_ok-push_version.ensures
    ∙ ap (λ (copied : Bool). c.push_predicates.new.out.items ++ version_text copied) c.in_ok-copied.ensures)
    c.in_ok-push_bytes-3.ensures.ok
