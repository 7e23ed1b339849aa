-- One process more is looked at, and what is known after the last.
use Rattle.std.proofs.Common.{◌≡◌, ℕ, ◌<◌, length, sym, subst, arith}
use Rattle.wide_conjunctions.specs.Holds.{IsHeldFrom, IsNeeded}
use Rattle.wide_conjunctions.proofs.HoldSteps.{each_needed, free_above, held_at_none, held_by}
use Rattle.wide_conjunctions.proofs.holds.hold_of.Goals as goal
use Rattle.wide_conjunctions.proofs.holds.hold_of.Goals.{then-count-low, else-count-low}

pub loop-q-preserved : goal.loop-q-preserved
loop-q-preserved c =
    let events = c.args.computation.now.events in
    let counts = c.args.counts.now in
    let many : length counts ≡ length events = c.requires.consistent.fits.one_each in
    let lt : c.loop-q.q < length events = omega (arith, many, c.loop-q-test.true, c.loop-q.auto.q-end) in
    elim c.if-count-low.branch [
      | then-count-low w ↦ record {
        there = subst (λ (n : ℕ). n < length events) (sym w.process-is) lt;
        top = λ pos.
            subst (λ (s : ℕ × ℕ). IsNeeded events counts s.0 c.args.p s.1)
            (λ i. (sym w.process-is i, sym w.low-is i)) c.needed-count.ensures;
        each =
            each_needed events counts c.args.p c.loop-q.q c.loop-q.low c.needed-count.result c.if-count-low.low
            c.loop-q.invariant.each c.needed-count.ensures (omega (arith, w.if-count-low, w.low-is))
            (omega (arith, w.low-is));
      }
      | else-count-low w ↦ record {
        there = subst (λ (n : ℕ). n < length events) (sym w.process-is) c.loop-q.invariant.there;
        top = λ pos.
            subst (λ (s : ℕ × ℕ). IsNeeded events counts s.0 c.args.p s.1)
            (λ i. (sym w.process-is i, sym w.low-is i)) (c.loop-q.invariant.top (omega (arith, w.low-is, pos)));
        each =
            each_needed events counts c.args.p c.loop-q.q c.loop-q.low c.needed-count.result c.if-count-low.low
            c.loop-q.invariant.each c.needed-count.ensures (omega (arith, w.low-is))
            (omega (arith, w.if-count-low, w.low-is));
      }
    ]

pub returns-then-low-eq0-clause-hold : goal.returns-then-low-eq0-clause-hold
returns-then-low-eq0-clause-hold c =
    let events = c.args.computation.now.events in
    let many : length c.args.counts.now ≡ length events = c.requires.consistent.fits.one_each in
    record {
      there = c.loop-q.invariant.there;
      held =
          subst (λ (low : ℕ). IsHeldFrom events c.args.p low c.loop-q.process 0) (sym c.if-low-eq0.true)
          (held_at_none events c.args.p c.loop-q.process 0);
      free =
          free_above events c.limits.ensures.acyclic c.args.counts.now c.args.p c.loop-q.low c.requires.consistent
          (λ q lt. c.loop-q.invariant.each q (omega (arith, many, lt, c.loop-q-test.false, c.loop-q.auto.q-end)));
    }

pub returns-clause-hold : goal.returns-clause-hold
returns-clause-hold c =
    let events = c.args.computation.now.events in
    let many : length c.args.counts.now ≡ length events = c.requires.consistent.fits.one_each in
    let pos : 0 < c.loop-q.low = omega (arith, c.if-low-eq0.false) in
    record {
      there = c.loop-q.invariant.there;
      held =
          held_by events c.loop-q.process c.first_needing-number.result c.args.p c.loop-q.low
          ((c.loop-q.invariant.top pos).some pos).0 c.first_needing-number.ensures.needing;
      free =
          free_above events c.limits.ensures.acyclic c.args.counts.now c.args.p c.loop-q.low c.requires.consistent
          (λ q lt. c.loop-q.invariant.each q (omega (arith, many, lt, c.loop-q-test.false, c.loop-q.auto.q-end)));
    }
