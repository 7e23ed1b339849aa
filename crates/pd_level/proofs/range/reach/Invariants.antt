-- With an event more the keys before the one end are below the bound, and those from the other end on are not.
use Rattle.std.proofs.Common.{ℕ, ◌+◌, ◌-◌, ◌^◌, ◌<◌, ◌≤◌, get_or, length}
use Rattle.walk_keys.specs.Keys.{count_base}
use Rattle.pd_level.proofs.range.reach.Given as goal

abbrev pub invariant-loop-low : goal.invariant-loop-low
invariant-loop-low g l = record {
  start : l.start ≤ l.low;
  order : l.low ≤ l.high;
  within : l.high ≤ length l.keys;
  below :
      (k : ℕ) → l.start ≤ k → k < l.low → get_or l.keys k 0 + count_base ^ (l.n - 1 - l.p) < g.K.Key.number l.bound;
  rest :
      (k : ℕ) → l.high ≤ k → k < length l.keys → g.K.Key.number l.bound
      ≤ get_or l.keys k 0 + count_base ^ (l.n - 1 - l.p);
}

abbrev pub decreases-loop-low : goal.decreases-loop-low
decreases-loop-low g l = l.high - l.low
