-- A process that hasn't come to its interval where another leaves its own goes to the one before.
use Rattle.std.proofs.Common.{ℕ, sym, subst}
use Rattle.wide_conjunctions.specs.Ways.{HasNoneEarlier}
use Rattle.wide_conjunctions.proofs.LastIntervals.{begins_earlier, box_there, entered_before, none_before, none_earlier}
use Rattle.wide_conjunctions.proofs.last.has_box.Goals as goal

pub loop-r-smaller : goal.loop-r-smaller
loop-r-smaller g c =
    begins_earlier c.args.computation.now.events (g.G.GoodCounts.good c.args.wanted.now) c.limits.ensures.acyclic
    c.args.cut.now c.requires.consistent c.loop-r.starts c.loop-r.leaves c.loop-r.invariant c.in-Some.r
    c.in-Some.ensures.some c.enter_before.new.starts c.enter_before.new.leaves
    (c.enter_before.ensures.some c.if-not-enter_before.false)

pub loop-r-preserved : goal.loop-r-preserved
loop-r-preserved g c =
    entered_before c.args.computation.now.events (g.G.GoodCounts.good c.args.wanted.now) c.limits.ensures.acyclic
    c.args.cut.now c.requires.consistent c.loop-r.starts c.loop-r.leaves c.loop-r.invariant c.in-Some.r
    c.in-Some.ensures.some c.enter_before.new.starts c.enter_before.new.leaves
    (c.enter_before.ensures.some c.if-not-enter_before.false)

pub returns-then-not-enter_before-clause-no : goal.returns-then-not-enter_before-clause-no
returns-then-not-enter_before-clause-no g c = λ _.
    none_before c.args.computation.now.events (g.G.GoodCounts.good c.args.wanted.now) c.limits.ensures.acyclic
    c.args.cut.now c.requires.consistent c.loop-r.starts c.loop-r.leaves c.loop-r.invariant c.in-Some.r
    c.in-Some.ensures.some (c.enter_before.ensures.none c.if-not-enter_before.true)

pub returns-then-r-p-clause-no : goal.returns-then-r-p-clause-no
returns-then-r-p-clause-no g c = λ _.
    none_earlier c.args.computation.now.events (g.G.GoodCounts.good c.args.wanted.now) c.limits.ensures.acyclic
    c.args.cut.now c.requires.consistent c.loop-r.starts c.loop-r.leaves c.loop-r.invariant c.in-Some.r
    c.in-Some.ensures.some
    (subst (λ (q : ℕ). HasNoneEarlier c.args.computation.now.events (g.G.GoodCounts.good c.args.wanted.now)
    c.args.cut.now q) (sym c.if-r-p.true) c.requires.none_earlier)

pub returns-clause-yes : goal.returns-clause-yes
returns-clause-yes g c = λ _.
    box_there c.args.computation.now.events (g.G.GoodCounts.good c.args.wanted.now) c.limits.ensures.acyclic
    c.args.cut.now c.requires.consistent c.loop-r.starts c.loop-r.leaves c.loop-r.invariant c.in_default.ensures.none
