-- The last step again, or that of the least process.
use Rattle.std.proofs.Common.{ℕ, ◌<◌, List, get_or, subst}
use Rattle.wide_conjunctions.specs.Ways.{ComesBack}
use Rattle.wide_conjunctions.proofs.HoldSteps.{run_leaves, run_least}
use Rattle.wide_conjunctions.proofs.way.next_step.Goals as goal

pub returns-then-goes_on-clause-leaves : goal.returns-then-goes_on-clause-leaves
returns-then-goes_on-clause-leaves g c =
    let good = g.G.GoodCounts.good c.args.wanted.now in
    let on : (c.args.last.stop < get_or c.args.cut.now c.args.last.process 0)
    × (¬ ComesBack good c.args.cut.now c.args.last.process) =
    subst (λ (cut : List ℕ). (c.args.last.stop < get_or cut c.args.last.process 0)
    × (¬ ComesBack good cut c.args.last.process)) c.counts.ensures (c.goes_on.ensures c.if-goes_on.true) in
    run_leaves c.args.computation.now.events good c.args.cut.now c.args.last.process c.args.last.stop
    c.requires.consistent c.requires.run on.0 c.requires.none on.1

pub returns-then-goes_on-clause-least : goal.returns-then-goes_on-clause-least
returns-then-goes_on-clause-least g c =
    run_least c.args.computation.now.events (g.G.GoodCounts.good c.args.wanted.now) c.args.cut.now
    c.args.last.process c.args.last.stop c.requires.consistent c.requires.run
    (subst (λ (cut : List ℕ). c.args.last.stop < get_or cut c.args.last.process 0) c.counts.ensures
    (c.goes_on.ensures c.if-goes_on.true).0)

pub returns-clause-least : goal.returns-clause-least
returns-clause-least g c = λ q lt leaves.
    c.least_leaving-p.ensures.least q (subst (λ (n : ℕ). q < n) c.step_of.ensures.here lt) leaves
