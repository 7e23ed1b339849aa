-- The bound of one process more, and at last the bounds of all.
use Rattle.std.proofs.Common.{◌≡◌, length, ◌∙◌, subst, sym, arith}
use Rattle.wide_gates.specs.Ends.{IsEnd}
use Rattle.wide_gates.specs.Spots.{IsAt}
use Rattle.wide_gates.proofs.EndCounts.{bounds_end, bounds_more}
use Rattle.wide_gates.proofs.ends.end_at.Goals as goal

pub loop-q-preserved : goal.loop-q-preserved
loop-q-preserved c =
    bounds_more c.args.computation.now.events c.args.spot c.args.greatest c.loop-q.q c.bound_at.result
    c.loop-q.counts.items c.push.new.self.items c.loop-q.invariant c.bound_at.ensures c.in_ok-push.ensures.items

pub returns : goal.returns
returns c =
    let events = c.args.computation.now.events in
    let all : c.loop-q.q ≡ length events =
    omega (arith, c.loop-q-test.false, c.loop-q.auto.q-end, c.processes-q-end.ensures) in
    let same : c.in_ok-cut.cut ≡ c.loop-q.counts.items = c.in_ok-cut.ensures.ok ∙ c.deref.ensures.value in
    subst (IsEnd c.args.greatest (IsAt events c.args.spot)) (sym same)
    (bounds_end events c.limits.ensures.acyclic c.args.spot c.requires.event c.loop-q.q all c.args.greatest
    c.loop-q.counts.items c.loop-q.invariant)
