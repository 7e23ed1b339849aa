-- What the loop of `first_needing` keeps.
use Rattle.std.proofs.Common.{◌<◌, ◌-◌, ◌≤◌}
use Rattle.wide_conjunctions.specs.Holds.{IsNeeding}
use Rattle.wide_conjunctions.proofs.holds.first_needing.Given as goal

abbrev pub invariant-loop-first : goal.invariant-loop-first
invariant-loop-first l = record {
  apart : l.below < l.first;
  up_to : l.first ≤ l.number;
  needing : IsNeeding l.computation.events l.q l.first l.p l.low;
}

abbrev pub decreases-loop-first : goal.decreases-loop-first
decreases-loop-first l = l.first - l.below
