-- A process that leaves its interval too early goes to its next one.
use Rattle.wide_conjunctions.proofs.FirstIntervals.{entered_next, fewer_left, least_there, none_next}
use Rattle.wide_conjunctions.proofs.box_least.go_on.Goals as goal

pub loop-q-smaller : goal.loop-q-smaller
loop-q-smaller g c =
    fewer_left c.args.computation.now.events (g.G.GoodCounts.good c.args.wanted.now) c.limits.ensures.acyclic
    c.loop-q.starts c.loop-q.leaves c.loop-q.invariant c.in-Some.q c.in-Some.ensures.some c.enter.new.starts
    c.enter.new.leaves (c.enter.ensures.some c.if-not-enter.false)

pub loop-q-preserved : goal.loop-q-preserved
loop-q-preserved g c =
    entered_next c.args.computation.now.events (g.G.GoodCounts.good c.args.wanted.now) c.limits.ensures.acyclic
    c.loop-q.starts c.loop-q.leaves c.loop-q.invariant c.in-Some.q c.in-Some.ensures.some c.enter.new.starts
    c.enter.new.leaves (c.enter.ensures.some c.if-not-enter.false)

pub returns-then-not-enter-clause-none : goal.returns-then-not-enter-clause-none
returns-then-not-enter-clause-none g c = λ _.
    none_next c.args.computation.now.events (g.G.GoodCounts.good c.args.wanted.now) c.limits.ensures.acyclic
    c.loop-q.starts c.loop-q.leaves c.loop-q.invariant c.in-Some.q c.in-Some.ensures.some
    (c.enter.ensures.none c.if-not-enter.true)

pub returns-clause-some : goal.returns-clause-some
returns-clause-some g c = λ _.
    least_there c.args.computation.now.events (g.G.GoodCounts.good c.args.wanted.now) c.limits.ensures.acyclic
    c.loop-q.starts c.loop-q.leaves c.loop-q.invariant c.in_default.ensures.none
