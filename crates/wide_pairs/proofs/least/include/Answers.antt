-- One count more is raised.
use Rattle.std.proofs.Common.{◌∙◌, length-set, arith}
use Rattle.pd_match.specs.Views.{place_view}
use Rattle.wide_conjunctions.proofs.Raised.{raised_on, left_on}
use Rattle.wide_pairs.proofs.least.include.Goals as goal

pub loop-r-preserved : goal.loop-r-preserved
loop-r-preserved c =
    record {
      same = length-set c.loop-r.counts c.loop-r.r c.max.result ∙ c.loop-r.invariant.same;
      done =
          raised_on c.args.computation.now.events (place_view c.args.place) c.args.counts.now c.loop-r.counts c.loop-r.r
          c.clock-past.result c.max.result (omega (arith, c.loop-r-test.true, c.loop-r.invariant.same))
          (c.loop-r.invariant.left c.loop-r.r (omega arith)) c.clock-past.ensures c.max.ensures c.loop-r.invariant.done;
      left = left_on c.args.counts.now c.loop-r.counts c.loop-r.r c.max.result c.loop-r.invariant.left;
    }
