-- What the loop of `carry_back` keeps.
use Rattle.std.proofs.Common.{◌≡◌, ℕ, ◌<◌, ◌≤◌, Bool, false, length}
use Rattle.wide_flow.specs.Closed.{IsClosed}
use Rattle.wide_flow.specs.Flows.{AreBelow, IsFlow, IsTakenInside}
use Rattle.wide_flow.specs.Searches.{IsReachedFrom, reached_at}
use Rattle.wide_flow.proofs.pay.carry_back.Given as goal

abbrev pub invariant-loop-at : goal.invariant-loop-at
invariant-loop-at l = record {
  there : l.at < length l.reached;
  flow : IsFlow l.steps l.flow (reached_at l.reached l.at).step l.amount;
  from : (j : ℕ) → 0 < j → j ≤ l.at → IsReachedFrom l.steps l.flow.takes.items l.reached j;
  enough : l.amount ≤ (reached_at l.reached l.at).room;
  left : l.flow.left.items ≡ l.initial.flow.left.items;
  below : (n : ℕ) → AreBelow n l.initial.flow.takes.items
      → ((j : ℕ) → j < length l.reached → (reached_at l.reached j).step < n) → AreBelow n l.flow.takes.items;
  inside : (set : ℕ → Bool) → IsClosed l.steps set → IsTakenInside set l.initial.flow.takes.items
      → set (reached_at l.reached l.initial.at).step ≡ false
      → IsTakenInside set l.flow.takes.items × (set (reached_at l.reached l.at).step ≡ false);
}

abbrev pub decreases-loop-at : goal.decreases-loop-at
decreases-loop-at l = l.at
