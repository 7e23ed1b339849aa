-- What the loop over the numbers keeps: their least and greatest so far.
use Rattle.std.proofs.Common.{get_or, ℕ, ◌<◌}
use Rattle.walk_tables.specs.Zero.{IsBetween, IsSmall}
use Rattle.walk_tables.proofs.table.Table.new.Given as goal

abbrev pub invariant-loop-value : goal.invariant-loop-value
invariant-loop-value l = record {
  low : IsSmall l.least;
  high : IsSmall l.greatest;
  beyond : IsBetween l.least l.greatest l.beyond;
  between : (k : ℕ) → k < l.value-index → IsBetween l.least l.greatest (get_or l.value-items k l.beyond);
}
