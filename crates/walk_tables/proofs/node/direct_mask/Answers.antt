-- Counts of cuts fit 64 bits.
use Rattle.std.proofs.Common.{arith, length, ◌+◌, ◌-◌}
use Rattle.walk_tables.proofs.Runs.{across_fits}
use Rattle.walk_tables.proofs.node.direct_mask.Goals as goal

pub overflow_add-x : goal.overflow_add-x
overflow_add-x c =
    let x = c.args.x + c.loop-j.j in
    let within =
    across_fits c.args.computation.now.events c.args.prefix.now x (c.args.y - c.loop-j.j)
    (c.requires.fits c.loop-j.j c.loop-j-test.true) in
    omega (arith, within, c.limits.ensures.short (length c.args.prefix.now))
