-- One payer more is looked at.
use Rattle.wide_flow.proofs.ReachSteps.{goes_on_both}
use Rattle.wide_flow.proofs.SearchSteps.{looked_more}
use Rattle.wide_flow.proofs.look.look_between.Goals as goal

pub loop-k-preserved : goal.loop-k-preserved
loop-k-preserved c = record {
  reached = c.in_ok-reach_takers.ensures.reached;
  on =
      goes_on_both c.args.reached.now.items c.loop-k.reached.items c.reach_takers.new.reached.items
      c.loop-k.invariant.on
      c.in_ok-reach_takers.ensures.on;
  looked =
      looked_more c.args.flow.now c.loop-k.reached.items c.reach_takers.new.reached.items c.args.row.now c.args.from
      c.loop-k.k c.in_ok-reach_takers.ensures.on c.loop-k.invariant.looked c.in_ok-reach_takers.ensures.looked;
}
