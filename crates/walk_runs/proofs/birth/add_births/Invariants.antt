-- What the loop of `add_births` keeps.
use Rattle.std.proofs.Common.{◌-◌, ◌≤◌, length}
use Rattle.walk_runs.specs.Points.{point_cut}
use Rattle.walk_runs.proofs.Growing.{GrowsYet}
use Rattle.walk_runs.proofs.birth.add_births.Given as goal

abbrev pub invariant-births : goal.invariant-births
invariant-births g l = record {
  within : l.from ≤ length l.steps - 2;
  grows : GrowsYet l.steps (point_cut (length l.steps - 2) l.point) l.by (length l.steps - 2) l.sought l.from l.fn.born
      l.born;
}

abbrev pub decreases-births : goal.decreases-births
decreases-births g l = length l.steps - 2 - l.from
