-- Each step takes in the next good count of a process whose count isn't good.
use Rattle.std.proofs.Common.{◌<◌, length, ◌∙◌, arith}
use Rattle.def_model.specs.Events.{place}
use Rattle.wide_conjunctions.proofs.Raised.{fewer_left, next_after, next_event, step_up}
use Rattle.wide_conjunctions.proofs.least.go_up.Goals as goal

pub loop-process-smaller : goal.loop-process-smaller
loop-process-smaller g c =
    fewer_left c.args.computation.now.events (place c.in-Some.process c.in-Some-next_good.number)
    c.loop-process.counts c.include.new.counts c.loop-process.invariant.below.consistent c.include.ensures
    (next_event c.args.computation.now.events (g.G.GoodCounts.good c.args.wanted.now) c.loop-process.counts
    c.loop-process.invariant.below c.in-Some.process c.in-Some.ensures.bad c.in-Some-next_good.number
    c.in-Some-next_good.ensures.some (omega (arith, c.in-Some-next_good.ensures.within, c.events.ensures)))
    (next_after c.args.computation.now.events (g.G.GoodCounts.good c.args.wanted.now) c.loop-process.counts
    c.loop-process.invariant.below c.in-Some.process c.in-Some.ensures.bad c.in-Some-next_good.number
    c.in-Some-next_good.ensures.some)

pub loop-process-preserved : goal.loop-process-preserved
loop-process-preserved g c =
    let there : c.in-Some.process < length c.args.computation.now.events =
    omega (arith, c.in-Some.ensures.within, c.loop-process.invariant.below.consistent.fits.one_each) in
    record {
      below =
          step_up c.args.computation.now.events (g.G.GoodCounts.good c.args.wanted.now) c.loop-process.counts
          c.loop-process.invariant.below c.in-Some.process c.in-Some.ensures.bad c.in-Some-next_good.number
          c.include.new.counts c.in-Some-next_good.ensures.some there c.include.ensures;
      same = c.include.ensures.same ∙ c.loop-process.invariant.same;
    }
