-- One list for each process so far.
use Rattle.std.proofs.Common.{◌≡◌, length}
use Rattle.judge_orders.proofs.Growing.{AreEmpty}
use Rattle.judge_orders.proofs.named.no_vars.Given as goal

abbrev pub invariant-loop-process : goal.invariant-loop-process
invariant-loop-process l = record {
  many : length l.named.items ≡ l._process;
  empty : AreEmpty l.named.items;
}
