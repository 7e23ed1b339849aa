-- One process more is held.
use Rattle.std.proofs.Common.{◌<◌, length, arith}
use Rattle.wide_conjunctions.proofs.HoldSteps.{free_up, held_more}
use Rattle.wide_conjunctions.proofs.holds.stop_of.Goals as goal

pub loop-r-preserved : goal.loop-r-preserved
loop-r-preserved c =
    let before : c.loop-r.r < c.args.p = c.loop-r-test.true in
    let there : c.loop-r.r < length c.args.computation.now.events = omega (arith, before, c.requires.within) in
    record {
      free =
          free_up c.args.computation.now.events c.args.counts.now c.args.p c.loop-r.stop c.stop_for-stop.result
          c.loop-r.invariant.free c.stop_for-stop.ensures.up;
      held =
          held_more c.args.computation.now.events c.args.counts.now c.args.p c.loop-r.r c.loop-r.stop
          c.stop_for-stop.result _ (λ same. omega (arith, same, before)) c.loop-r.invariant.held
          (c.requires.holds.each c.loop-r.r _ there) (c.is_held.ensures c.if-not-is_held.false)
          c.stop_for-stop.ensures.up c.stop_for-stop.ensures.here;
    }
