-- Counts of cuts are within the limit of events.
use Rattle.std.proofs.Common.{arith, length, ◌+◌, ◌-◌}
use Rattle.walk_tables.proofs.Runs.{across_fits}
use Rattle.walk_tables.proofs.node.conjunction_mask.Goals as goal

pub mask-requires-clause-low : goal.mask-requires-clause-low
mask-requires-clause-low c =
    let within =
    across_fits c.args.computation.now.events c.args.prefix.now (c.args.x + 0) (c.args.y - 0)
    (c.requires.fits 0 (omega arith)) in
    omega (arith, within, c.limits.ensures.short (length c.args.prefix.now))
