-- The next process is looked at.
use Rattle.std.proofs.Common.{◌≡◌, ◌<◌, ◌≤◌, length, ◌∙◌, arith}
use Rattle.wide_conjunctions.proofs.MostBefore.{one_more}
use Rattle.wide_conjunctions.specs.Boxes.{LeavesNoBox}
use Rattle.wide_conjunctions.proofs.WaysBack.{no_later}
use Rattle.wide_conjunctions.proofs.way.least_leaving.Goals as goal

pub leaves_no_box-requires-clause-within : goal.leaves_no_box-requires-clause-within
leaves_no_box-requires-clause-within g c =
    let many : length c.args.cut.now ≡ length c.args.computation.now.events = c.requires.consistent.fits.one_each in
    let le : c.loop-alloc.p ≤ c.requires.some.0 =
    no_later c.args.computation.now.events (g.G.GoodCounts.good c.args.wanted.now) c.args.cut.now c.loop-alloc.p
    c.loop-alloc.invariant.none c.requires.some.0 c.requires.some.2 in
    let lt : c.requires.some.0 < length c.args.cut.now = c.requires.some.1 in
    omega (arith, many, le, lt)

pub overflow_add-p : goal.overflow_add-p
overflow_add-p g c =
    let many : length c.args.cut.now ≡ length c.args.computation.now.events = c.requires.consistent.fits.one_each in
    let le : c.loop-alloc.p ≤ c.requires.some.0 =
    no_later c.args.computation.now.events (g.G.GoodCounts.good c.args.wanted.now) c.args.cut.now c.loop-alloc.p
    c.loop-alloc.invariant.none c.requires.some.0 c.requires.some.2 in
    let lt : c.requires.some.0 < length c.args.cut.now = c.requires.some.1 in
    omega (arith, many, le, lt, c.limits.ensures.few)

pub loop-alloc-smaller : goal.loop-alloc-smaller
loop-alloc-smaller g c =
    let le : c.loop-alloc.p ≤ c.requires.some.0 =
    no_later c.args.computation.now.events (g.G.GoodCounts.good c.args.wanted.now) c.args.cut.now c.loop-alloc.p
    c.loop-alloc.invariant.none c.requires.some.0 c.requires.some.2 in
    let lt : c.requires.some.0 < length c.args.cut.now = c.requires.some.1 in
    omega (arith, le, lt)

pub loop-alloc-preserved : goal.loop-alloc-preserved
loop-alloc-preserved g c = record {
  none =
      one_more (λ q. LeavesNoBox c.args.computation.now.events (g.G.GoodCounts.good c.args.wanted.now) c.args.cut.now q
      → ⊥) c.loop-alloc.p c.loop-alloc.invariant.none (c.leaves_no_box.ensures.no c.loop-alloc-test.true);
  holds = c.leaves_no_box.ensures.holds_same;
  starts_each = c.leaves_no_box.ensures.starts_same ∙ c.loop-alloc.invariant.starts_each;
  leaves_each = c.leaves_no_box.ensures.leaves_same ∙ c.loop-alloc.invariant.leaves_each;
}
