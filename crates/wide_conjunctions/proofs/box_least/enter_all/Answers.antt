-- One process more is taken to its first interval.
use Rattle.std.proofs.Common.{arith}
use Rattle.wide_conjunctions.proofs.FirstIntervals.{entered_first, none_first}
use Rattle.wide_conjunctions.proofs.box_least.enter_all.Goals as goal

pub loop-q-preserved : goal.loop-q-preserved
loop-q-preserved g c =
    entered_first c.args.computation.now.events (g.G.GoodCounts.good c.args.wanted.now) c.limits.ensures.acyclic
    c.loop-q.q c.loop-q.starts c.loop-q.leaves c.loop-q.invariant
    (omega (arith, c.loop-q-test.true, c.loop-q.auto.q-end, c.processes-q-end.ensures)) c.enter.new.starts
    c.enter.new.leaves (c.enter.ensures.some c.if-not-enter.false)

pub returns-then-not-enter-clause-none : goal.returns-then-not-enter-clause-none
returns-then-not-enter-clause-none g c = λ _.
    none_first c.args.computation.now.events (g.G.GoodCounts.good c.args.wanted.now) c.limits.ensures.acyclic
    c.loop-q.q (omega (arith, c.loop-q-test.true, c.loop-q.auto.q-end, c.processes-q-end.ensures))
    (c.enter.ensures.none c.if-not-enter.true)
