-- What the loop of `keyed` keeps.
use Rattle.std.proofs.Common.{◌≡◌, ℕ, ◌<◌, length}
use Rattle.wide_flow.specs.Steps.{step_at}
use Rattle.wide_reach.specs.Keys.{IsKeyed}
use Rattle.wide_reach.proofs.sorted.keyed.Given as goal

abbrev pub invariant-loop-i : goal.invariant-loop-i
invariant-loop-i l = record {
  one_each : length l.keyed.items ≡ l.i;
  each : (k : ℕ) → k < length l.keyed.items
      → IsKeyed l.bound l.key (step_at l.steps k) (step_at l.keyed.items k);
}
