-- What the loop of `free_processes` keeps.
use Rattle.std.proofs.Common.{◌≡◌, ◌<◌, ◌≤◌, ◌↔◌, ℕ, false}
use Rattle.std.specs.Prelude.{IsTrue}
use Rattle.walk_keys.specs.Words.{has_bit}
use Rattle.walk_back.specs.Ways.{LeavesConsistent}
use Rattle.walk_back.proofs.free.free_processes.Given as goal

abbrev pub invariant-loop-p : goal.invariant-loop-p
invariant-loop-p l = record {
  so_far : (q : ℕ) → q < l.p → IsTrue (has_bit l.free q) ↔ LeavesConsistent l.computation.events l.cut q;
  beyond : (q : ℕ) → l.p ≤ q → has_bit l.free q ≡ false;
}
