-- What the loops of `no_events` keep.
use Rattle.std.proofs.Common.{◌≡◌, ℕ, length, [], replicate}
use Rattle.pd_clock.specs.Orders.{clocks_of}
use Rattle.pd_clock.proofs.order.no_events.Given as goal

abbrev pub invariant-loop-process : goal.invariant-loop-process
invariant-loop-process l = record {
  none : l.done.items ≡ replicate l.processes 0;
  one_each : length l.clocks.items ≡ l._process;
  empty : (p : ℕ) → clocks_of l.clocks.items p ≡ [];
}
