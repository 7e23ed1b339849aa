-- What the loop of `last_in` keeps.
use Rattle.std.proofs.Common.{◌≡◌, ℕ, ◌<◌, ◌≤◌, false}
use Rattle.wide_pairs.specs.Grids.{row_has}
use Rattle.wide_pairs.proofs.grid_level.last_in.Given as goal

abbrev pub invariant-loop-j : goal.invariant-loop-j
invariant-loop-j l = record {
  within : l.j ≤ l.end;
  none : (k : ℕ) → l.j ≤ k → k < l.end → row_has l.row.first l.row.words.items k ≡ false;
}

abbrev pub decreases-loop-j : goal.decreases-loop-j
decreases-loop-j l = l.j
