-- One spot more.
use Rattle.std.proofs.Common.{◌≡◌, ℕ, ◌+◌, ◌-◌, false, get_or, subst, arith}
use Rattle.pd_pred.specs.Views.{predicate_view}
use Rattle.wide_gates.specs.Ends.{AreBelowHighs}
use Rattle.wide_gates.specs.Spots.{event_of}
use Rattle.wide_gates.specs.declared.spot.Spot.{Spot}
use Rattle.wide_gates.proofs.EndCounts.{below_highs}
use Rattle.wide_gates.proofs.TriedCuts.{none_seen, spot_seen}
use Rattle.wide_gates.proofs.tried.look_at_each.Goals as goal

no_spot : Spot
no_spot = record { place = record { process = 0; number = 0 }; after = false }

pub loop-k-init : goal.loop-k-init
loop-k-init c = record {
  highs = λ d. c.requires.none (get_or c.args.spots.now 0 d);
  first = none_seen c.args.computation.now (predicate_view c.args.pred.now) c.args.spots.now;
}

pub look_at-requires-clause-highs : goal.look_at-requires-clause-highs
look_at-requires-clause-highs c = c.next_highs.ensures _

pub loop-k-preserved : goal.loop-k-preserved
loop-k-preserved c =
    let events = c.args.computation.now.events in
    let spots = c.args.spots.now in
    let k : ℕ = c.loop-k.k in
    let same : k ≡ k + 1 - 1 = omega arith in
    record {
      highs = λ d. subst (λ (i : ℕ). AreBelowHighs events (event_of (get_or spots i d)) c.next_highs.new.highs) same
          (below_highs events (event_of (get_or spots k d)) c.next_highs.new.highs (c.next_highs.ensures d));
      first = spot_seen c.args.computation.now (predicate_view c.args.pred.now) spots k _ c.loop-k-test.true
          c.loop-k.found c.in_ok-found.found c.loop-k.invariant.first c.in_ok-found.ensures;
    }
