-- One step back.
use Rattle.std.proofs.Common.{◌≡◌, ℕ, ◌+◌, ◌-◌, ◌<◌, List, length, sum, sym, ap, ◌∙◌, subst, arith}
use Rattle.def_model.specs.Cuts.{one_less}
use Rattle.def_model.proofs.Counts.{in_range, sum_less}
use Rattle.wide_conjunctions.specs.Holds.{AreHolds, IsRunDown}
use Rattle.wide_conjunctions.proofs.HoldSteps.{holds_less, run_less}
use Rattle.wide_conjunctions.proofs.WaysBack.{reached_empty, reached_full, reached_next, some_step}
use Rattle.wide_conjunctions.proofs.way.way_back.Goals as goal

pub loop-events-init : goal.loop-events-init
loop-events-init g c = record {
  number = ap sum c.whole_cut-cut.ensures ∙ sym c.total-events.ensures.sum;
  reached =
      reached_full c.args.computation.now.events (g.G.GoodCounts.good c.args.wanted.now) c.new-path.result.items
      c.whole_cut-cut.result c.new-path.ensures.items c.whole_cut-cut.ensures c.requires.none;
  holds =
      subst (λ (cut : List ℕ). AreHolds c.args.computation.now.events cut c.args.holds.now)
      (sym c.whole_cut-cut.ensures) c.requires.holds;
  there = c.first_step-step.ensures.there;
  run =
      subst (λ (cut : List ℕ). IsRunDown c.args.computation.now.events cut c.first_step-step.result.process
      c.first_step-step.result.stop) (sym c.whole_cut-cut.ensures) c.first_step-step.ensures.run;
  starts_each = c.requires.starts_each;
  leaves_each = c.requires.leaves_each;
}

pub next_step-step-requires-clause-some : goal.next_step-step-requires-clause-some
next_step-step-requires-clause-some g c =
    some_step c.args.computation.now.events (g.G.GoodCounts.good c.args.wanted.now) c.limits.ensures.acyclic
    c.loop-events.path.items c.loop-events.cut (c.loop-events.events - 1) c.loop-events.invariant.reached
    (omega (arith, c.loop-events.invariant.number, c.loop-events-test.true))

pub loop-events-preserved : goal.loop-events-preserved
loop-events-preserved g c =
    let events = c.args.computation.now.events in
    let p = c.next_step-step.result.process in
    let fewer : sum (one_less c.loop-events.cut p) + 1 ≡ sum c.loop-events.cut =
    sum_less c.loop-events.cut p c.next_step-step.ensures.leaves.0 in
    let same : sum c.undo.new.self ≡ sum (one_less c.loop-events.cut p) = ap sum c.undo.ensures in
    record {
      number = omega (arith, fewer, same, c.loop-events.invariant.number);
      reached =
          reached_next events (g.G.GoodCounts.good c.args.wanted.now) c.loop-events.path.items c.loop-events.cut p
          c.loop-events.invariant.reached c.next_step-step.ensures.leaves c.next_step-step.ensures.least
          c.push.new.self.items c.undo.new.self c.in_ok-push.ensures.items c.undo.ensures;
      there =
          let lt : p < length c.loop-events.cut = in_range c.loop-events.cut p c.next_step-step.ensures.leaves.0 in
          omega (arith, lt, c.loop-events.invariant.reached.consistent.fits.one_each);
      run =
          run_less events c.loop-events.cut c.undo.new.self p c.next_step-step.result.stop
          c.next_step-step.ensures.leaves.0 c.undo.ensures c.next_step-step.ensures.run;
      holds =
          holds_less events c.loop-events.cut c.undo.new.self p c.next_step-step.new.holds
          c.next_step-step.ensures.leaves.0 c.undo.ensures c.next_step-step.ensures.holds_same;
      starts_each = c.next_step-step.ensures.starts_same ∙ c.loop-events.invariant.starts_each;
      leaves_each = c.next_step-step.ensures.leaves_same ∙ c.loop-events.invariant.leaves_each;
    }

pub returns : goal.returns
returns g c =
    reached_empty c.args.computation.now.events (g.G.GoodCounts.good c.args.wanted.now) c.loop-events.path.items
    c.loop-events.cut c.loop-events.invariant.reached
    (omega (arith, c.loop-events.invariant.number, c.loop-events-test.false))
