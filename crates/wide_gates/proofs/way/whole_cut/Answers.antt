-- All counts are there.
use Rattle.std.proofs.Common.{◌≡◌, length, ◌∙◌, arith}
use Rattle.wide_gates.proofs.WaysBack.{whole_is_full}
use Rattle.wide_gates.proofs.way.whole_cut.Goals as goal

pub returns : goal.returns
returns c =
    let events = c.args.computation.now.events in
    let all : c.loop-p.p ≡ length events =
    omega (arith, c.loop-p-test.false, c.loop-p.auto.p-end, c.processes-p-end.ensures) in
    (c.in_ok-cut.ensures.ok ∙ c.deref.ensures.value)
    ∙ whole_is_full events c.loop-p.counts.items c.loop-p.p c.loop-p.invariant.many all c.loop-p.invariant.each
