-- One event more is made.
use Rattle.std.proofs.Common.{◌<◌, length, false, ◌∙◌, arith}
use Rattle.std.proofs.lemmas.List.{get_or_default}
use Rattle.judge_causes.specs.Reduced.{is_listed}
use Rattle.pd_clock.specs.Orders.{places_view}
use Rattle.judge_causes.proofs.ReducedSteps.{reduced_next}
use Rattle.judge_causes.proofs.reduce.reduced_events.Goals as goal

pub loop-k-preserved : goal.loop-k-preserved
loop-k-preserved c =
    let within : c.loop-k.k < length c.args.events.now = omega (arith, c.loop-k-test.true, c.len-k-end.ensures) in
    let marked = c.in_ok-marks.ensures.marked c.loop-k.k (omega (arith, within, c.len.ensures)) in
    let there : c.loop-k.k < length c.in_ok-marks.marks.items =
    omega (arith, within, c.len.ensures, c.in_ok-marks.ensures.one_each) in
    reduced_next (is_listed (places_view c.args.kept.now)) c.args.process c.loop-k.k c.args.events.now c.loop-k.made
    c.push_event.new.made c.index.result.now within
    (c.index.ensures
    ∙ get_or_default c.in_ok-marks.marks.items c.loop-k.k c.index.result.now false there
    ∙ marked) c.in_ok-push_event.ensures
    ∙ c.loop-k.invariant
