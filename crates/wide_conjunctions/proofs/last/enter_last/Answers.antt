-- One process more is taken to its last interval.
use Rattle.std.proofs.Common.{◌≡◌, length, arith}
use Rattle.wide_conjunctions.proofs.LastIntervals.{entered_last, none_last}
use Rattle.wide_conjunctions.proofs.last.enter_last.Goals as goal

pub loop-q-preserved : goal.loop-q-preserved
loop-q-preserved g c =
    let many : length c.args.cut.now ≡ length c.args.computation.now.events = c.requires.consistent.fits.one_each in
    entered_last c.args.computation.now.events (g.G.GoodCounts.good c.args.wanted.now) c.limits.ensures.acyclic
    c.args.cut.now c.requires.consistent c.loop-q.q c.loop-q.starts c.loop-q.leaves c.loop-q.invariant
    (omega (arith, many, c.loop-q-test.true, c.loop-q.auto.q-end)) c.enter_before.new.starts
    c.enter_before.new.leaves (c.enter_before.ensures.some c.if-not-enter_before.false)

pub returns-then-not-enter_before-clause-none : goal.returns-then-not-enter_before-clause-none
returns-then-not-enter_before-clause-none g c = λ _.
    let many : length c.args.cut.now ≡ length c.args.computation.now.events = c.requires.consistent.fits.one_each in
    none_last c.args.computation.now.events (g.G.GoodCounts.good c.args.wanted.now) c.limits.ensures.acyclic
    c.args.cut.now c.requires.consistent c.loop-q.q (omega (arith, many, c.loop-q-test.true, c.loop-q.auto.q-end))
    (c.enter_before.ensures.none c.if-not-enter_before.true)
