-- What is known at the spot before, and the first good cut of the spots so far.
use Rattle.std.proofs.Common.{◌-◌, get_or}
use Rattle.pd_pred.specs.Views.{predicate_view}
use Rattle.wide_gates.specs.Ends.{AreBelowHighs, IsEndIn}
use Rattle.wide_gates.specs.Seen.{IsFirstSeen}
use Rattle.wide_gates.specs.Spots.{event_of}
use Rattle.wide_gates.specs.declared.spot.Spot.{Spot}
use Rattle.wide_gates.proofs.tried.look_at_each.Given as goal

abbrev pub invariant-loop-k : goal.invariant-loop-k
invariant-loop-k l = record {
  highs : (d : Spot) → AreBelowHighs l.computation.events (event_of (get_or l.spots (l.k - 1) d)) l.highs;
  first : IsFirstSeen l.computation (predicate_view l.pred) (IsEndIn l.computation.events l.spots l.k) l.found;
}
