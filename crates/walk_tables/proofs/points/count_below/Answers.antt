-- The number in the middle decides half of those that are left.
use Rattle.std.proofs.Common.{◌+◌, ◌-◌, ◌/◌, arith, to_z, of_z, w64}
use Rattle.std.proofs.lemmas.Int.{ints}
use Rattle.walk_tables.proofs.Ascents.{below_middle, from_middle}
use Rattle.walk_tables.proofs.points.count_below.Goals as goal

pub loop-low-preserved-then-points-middle : goal.loop-low-preserved-then-points-middle
loop-low-preserved-then-points-middle c =
    let kept = c.loop-low.invariant in
    let m = c.loop-low.low + (c.loop-low.high - c.loop-low.low) / 2 in
    record {
      order = omega (arith, c.loop-low-test.true);
      within = kept.within;
      below = below_middle c.args.points.now m (to_z w64 (of_z w64 c.args.value)) c.requires
          (omega (arith, c.loop-low-test.true, kept.within)) (omega (arith, ints, c.if-points-middle.true));
      rest = kept.rest;
    }

pub loop-low-preserved : goal.loop-low-preserved
loop-low-preserved c =
    let kept = c.loop-low.invariant in
    let m = c.loop-low.low + (c.loop-low.high - c.loop-low.low) / 2 in
    record {
      order = omega arith;
      within = omega (arith, kept.within, c.loop-low-test.true);
      below = kept.below;
      rest = from_middle c.args.points.now m (to_z w64 (of_z w64 c.args.value)) c.requires
          (omega (arith, ints, c.if-points-middle.false));
    }
