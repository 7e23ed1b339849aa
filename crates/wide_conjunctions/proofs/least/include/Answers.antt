-- One count more is raised.
use Rattle.std.proofs.Common.{◌∙◌, length-set, arith}
use Rattle.pd_match.specs.Views.{place_view}
use Rattle.wide_conjunctions.proofs.Raised.{raised_on, left_on}
use Rattle.wide_conjunctions.proofs.least.include.Goals as goal

pub loop-q-preserved : goal.loop-q-preserved
loop-q-preserved c =
    record {
      same = length-set c.loop-q.counts c.loop-q.q c.max.result ∙ c.loop-q.invariant.same;
      done =
          raised_on c.args.computation.now.events (place_view c.args.place) c.args.counts.now c.loop-q.counts c.loop-q.q
          c.clock-past.result c.max.result (omega (arith, c.loop-q-test.true, c.loop-q.invariant.same))
          (c.loop-q.invariant.left c.loop-q.q (omega arith)) c.clock-past.ensures c.max.ensures c.loop-q.invariant.done;
      left = left_on c.args.counts.now c.loop-q.counts c.loop-q.q c.max.result c.loop-q.invariant.left;
    }
