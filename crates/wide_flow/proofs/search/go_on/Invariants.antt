-- What the loop of `go_on` keeps.
use Rattle.std.proofs.Common.{◌≡◌, ◌+◌, ◌-◌, ◌≤◌, length, sum}
use Rattle.wide_flow.specs.Searches.{AreReached, IsSearch, reached_at}
use Rattle.wide_flow.proofs.search.go_on.Given as goal

abbrev pub invariant-looking : goal.invariant-looking
invariant-looking l = record {
  reached : AreReached l.steps l.flow l.reached.items l.places;
  first : (reached_at l.reached.items 0).step ≡ (reached_at l.initial.reached.items 0).step;
  search : IsSearch (length l.rows) l.steps l.rows l.flow l.frozen (reached_at l.initial.reached.items 0).step
      l.reached.items l.lows.items l.tops.items l.at;
  within : l.at ≤ length l.reached.items;
}

abbrev pub decreases-looking : goal.decreases-looking
decreases-looking l = (length l.steps - l.at) + sum l.lows.items
