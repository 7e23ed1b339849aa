-- The processes after the first one so far.
use Rattle.std.proofs.Common.{◌≡◌, ◌++◌, map, take, codes}
use Rattle.std.specs.Prelude.{flat_map}
use Rattle.judge_infer.specs.DocumentParts.{process_text}
use Rattle.judge_infer.specs.Views.{process_view}
use Rattle.judge_infer.proofs.text.push_processes.Given as goal

abbrev pub invariant-loop-process : goal.invariant-loop-process
invariant-loop-process l = l.out.items
    ≡ l.initial.out.items
    ++ flat_map (λ other. codes ",\n  " ++ other) (map process_text (map process_view (take l.process-index l.more)))
