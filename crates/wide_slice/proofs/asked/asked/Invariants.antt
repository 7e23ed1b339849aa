-- What the loop of `asked` keeps.
use Rattle.std.proofs.Common.{◌≡◌, ℕ, ◌<◌, length}
use Rattle.wide_slice.specs.Points.{IsAsked, flags_at}
use Rattle.wide_slice.proofs.asked.asked.Given as goal

abbrev pub invariant-loop-process : goal.invariant-loop-process
invariant-loop-process l = record {
  count : length l.asked.items ≡ l.process;
  each : (q : ℕ) → q < l.process → IsAsked l.computation.events l.rows q (flags_at l.asked.items q);
}
