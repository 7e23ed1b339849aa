-- One process more leaves none.
use Rattle.std.proofs.Common.{◌<◌, length, arith}
use Rattle.std.proofs.lemmas.Bool.{false≢true}
use Rattle.def_model.specs.Answers.{LeavesAvoiding}
use Rattle.wide_pairs.specs.Avoiding.{test_of_pairs}
use Rattle.wide_pairs.proofs.Passing.{least_within, one_more}
use Rattle.wide_pairs.proofs.way.least_leaving.Goals as goal

pub overflow_add-r : goal.overflow_add-r
overflow_add-r g c =
    let lt : c.loop-r.r < length c.args.cut.now =
    least_within (LeavesAvoiding c.args.computation.now.events (test_of_pairs (g.G.GoodPairs.good c.args._wanted.now)
    c.args.p c.args.q) c.args.cut.now) (length c.args.cut.now) c.loop-r.r c.loop-r.invariant c.requires.some in
    omega (arith, lt, c.requires.consistent.fits.one_each, c.limits.ensures.few)

pub loop-r-preserved : goal.loop-r-preserved
loop-r-preserved g c =
    one_more (λ k. ¬ LeavesAvoiding c.args.computation.now.events (test_of_pairs (g.G.GoodPairs.good
    c.args._wanted.now) c.args.p c.args.q) c.args.cut.now k) c.loop-r.r c.loop-r.invariant
    (λ leaves. false≢true (c.loop-r-test.ensures.1 leaves))
