-- What the loop of `reach_takers` keeps.
use Rattle.std.proofs.Common.{◌≡◌, ℕ, suc, ◌<◌, ◌≤◌, length}
use Rattle.wide_flow.specs.Flows.{take_at}
use Rattle.wide_flow.specs.Searches.{AreReached, GoesOn, HasReached}
use Rattle.wide_flow.proofs.reach.reach_takers.Given as goal

abbrev pub invariant-loop-at : goal.invariant-loop-at
invariant-loop-at l = record {
  within : l.at ≤ length l.flow.takes.items;
  own : (i : ℕ) → l.at ≡ suc i → (take_at l.flow.takes.items i).payer ≡ l.payer;
  reached : AreReached l.steps l.flow l.reached.items l.places;
  on : GoesOn l.initial.reached.items l.reached.items;
  takers : (i : ℕ) → l.at ≤ i → i < length l.flow.takes.items → (take_at l.flow.takes.items i).payer ≡ l.payer
      → HasReached l.reached.items (take_at l.flow.takes.items i).taker;
}

abbrev pub decreases-loop-at : goal.decreases-loop-at
decreases-loop-at l = l.at
