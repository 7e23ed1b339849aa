-- The ids of the processes so far.
use Rattle.std.proofs.Common.{◌≡◌, ℕ, List, Bor, map, take}
use Rattle.std.specs.Prelude.{flat_map}
use Rattle.judge_infer.specs.Streams.{Process}
use Rattle.judge_infer.specs.Views.{process_view}
use Rattle.judge_infer.proofs.text.is_copied.Given as goal

abbrev pub invariant-loop-process : goal.invariant-loop-process
invariant-loop-process l = map (λ (id : Bor (List ℕ)). id.now) l.ids.items
    ≡ flat_map (λ (process : Process). process.received) (map process_view (take l.process-index l.processes))
