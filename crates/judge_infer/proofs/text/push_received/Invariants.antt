-- The ids so far.
use Rattle.std.proofs.Common.{◌≡◌, ◌++◌, ℕ, List, Bor, map, take, string_bytes}
use Rattle.judge_infer.proofs.text.push_received.Given as goal

abbrev pub invariant-loop-id : goal.invariant-loop-id
invariant-loop-id l = map (λ (id : Bor (List ℕ)). id.now) l.ids.items
    ≡ map (λ (id : Bor (List ℕ)). id.now) l.initial.ids.items ++ map string_bytes (take l.id-index l.received)
