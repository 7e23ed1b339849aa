-- The cut is on the way back, and those above it have been looked at; each step has one event less.
use Rattle.std.proofs.Common.{sum}
use Rattle.pd_pred.specs.Views.{predicate_view}
use Rattle.def_model.specs.Cuts.{IsConsistent}
use Rattle.def_wide.specs.Tried.{IsOnWayBack}
use Rattle.wide_gates.specs.Seen.{AfterBest, IsBackAbove, IsFirstSeen}
use Rattle.wide_gates.proofs.way.look_back.Given as goal

abbrev pub decreases-loop-cut : goal.decreases-loop-cut
decreases-loop-cut l = sum l.cut

abbrev pub invariant-loop-cut : goal.invariant-loop-cut
invariant-loop-cut l = record {
  consistent : IsConsistent l.computation.events l.cut;
  on_way : IsOnWayBack l.computation.events l.cut;
  first : IsFirstSeen l.computation (predicate_view l.pred)
      (AfterBest l.fn.best (IsBackAbove l.computation.events (sum l.cut))) l.found;
}
