-- The way down where every cut avoids.
use Rattle.std.proofs.Common.{◌≡◌, ℕ, ◌+◌, ◌-◌, ◌<◌, List, [], ◌∷◌, ◌++◌, length, sum, sym, ap, subst, arith}
use Rattle.def_model.specs.Predicates.{test_of}
use Rattle.pd_pred.specs.Views.{predicate_view}
use Rattle.def_model.specs.Cuts.{one_less}
use Rattle.def_model.specs.Walks.{NoneBelow}
use Rattle.def_model.proofs.Counts.{sum_less}
use Rattle.walk_back.specs.Ways.{IsReached, LeavesConsistent}
use Rattle.walk_back.proofs.Reaching.{reached_consistent, reached_empty, reached_free, some_leaves_free}
use Rattle.walk_back.proofs.free.free_way.Goals as goal

pub free_processes-free-requires : goal.free_processes-free-requires
free_processes-free-requires c =
    reached_consistent c.args.computation.now.events (test_of c.args.computation.now (predicate_view c.args._pred.now))
    c.args.path.now.items c.args.cut c.requires.reached

pub least_free-p-requires-clause-some : goal.least_free-p-requires-clause-some
least_free-p-requires-clause-some c =
    let up : sum c.loop-events.cut ≡ c.loop-events.events - 1 + 1 = omega (arith, c.loop-events.invariant.number) in
    let none : NoneBelow c.args.computation.now.events (test_of c.args.computation.now (predicate_view
    c.args._pred.now)) (c.loop-events.events - 1 + 1) =
    λ j other lt at. c.loop-events.invariant.none_below j other (omega (arith, c.loop-events.invariant.number)) at in
    let some : (p : ℕ) × (p < length c.loop-events.cut)
    × LeavesConsistent c.args.computation.now.events c.loop-events.cut p =
    some_leaves_free c.args.computation.now.events c.limits.ensures.acyclic (test_of c.args.computation.now
    (predicate_view c.args._pred.now)) c.loop-events.path.items c.loop-events.cut
    (c.loop-events.events - 1) c.loop-events.invariant.reached up none in
    (some.0, some.2)

pub undo_free-free-requires-clause-consistent : goal.undo_free-free-requires-clause-consistent
undo_free-free-requires-clause-consistent c =
    reached_consistent c.args.computation.now.events (test_of c.args.computation.now (predicate_view c.args._pred.now))
    c.loop-events.path.items c.loop-events.cut c.loop-events.invariant.reached

pub loop-events-preserved : goal.loop-events-preserved
loop-events-preserved c =
    let up : sum c.loop-events.cut ≡ c.loop-events.events - 1 + 1 = omega (arith, c.loop-events.invariant.number) in
    let none : NoneBelow c.args.computation.now.events (test_of c.args.computation.now (predicate_view
    c.args._pred.now)) (c.loop-events.events - 1 + 1) =
    λ j other lt at. c.loop-events.invariant.none_below j other (omega (arith, c.loop-events.invariant.number)) at in
    let less : c.undo_free-free.new.cut ≡ one_less c.loop-events.cut c.least_free-p.result =
    c.undo_free-free.ensures.less in
    let fewer : sum (one_less c.loop-events.cut c.least_free-p.result) + 1 ≡ sum c.loop-events.cut =
    sum_less c.loop-events.cut c.least_free-p.result c.least_free-p.ensures.leaves.0 in
    let same : sum c.undo_free-free.new.cut ≡ sum (one_less c.loop-events.cut c.least_free-p.result) = ap sum less in
    let pushed : c.push.new.self.items ≡ c.loop-events.path.items ++ c.least_free-p.result ∷ [] =
    c.in_ok-push.ensures.items in
    record {
      number = omega arith;
      none_below = λ j other lt at. c.loop-events.invariant.none_below j other (omega arith) at;
      reached = subst (λ (cut : List ℕ). IsReached c.args.computation.now.events (test_of c.args.computation.now
          (predicate_view c.args._pred.now)) c.push.new.self.items cut) (sym less)
          (subst (λ (path : List ℕ). IsReached c.args.computation.now.events (test_of c.args.computation.now
          (predicate_view c.args._pred.now)) path (one_less c.loop-events.cut c.least_free-p.result))
          (sym pushed)
          (reached_free c.args.computation.now.events c.limits.ensures.acyclic (test_of c.args.computation.now
          (predicate_view c.args._pred.now)) c.loop-events.path.items c.loop-events.cut
          c.least_free-p.result (c.loop-events.events - 1) c.loop-events.invariant.reached up none
          c.least_free-p.ensures.leaves c.least_free-p.ensures.least));
      free = c.undo_free-free.ensures.free;
    }

pub returns : goal.returns
returns c =
    reached_empty c.args.computation.now.events (test_of c.args.computation.now (predicate_view c.args._pred.now))
    c.loop-events.path.items c.loop-events.cut c.loop-events.invariant.reached
    (omega (arith, c.loop-events.invariant.number, c.loop-events-test.false))
