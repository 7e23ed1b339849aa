-- The last box.
use Rattle.std.proofs.Common.{◌-◌, false, get_or, arith}
use Rattle.wide_gates.specs.declared.spot.Spot.{Spot}
use Rattle.wide_gates.proofs.Sharing.{of_last}
use Rattle.wide_gates.proofs.boxes.box_at.Goals as goal

abbrev no_spot : Spot
no_spot = record { place = record { process = 0; number = 0 }; after = false }

pub overflow_sub-boxes : goal.overflow_sub-boxes
overflow_sub-boxes c =
    let last = c.requires.last (omega (arith, c.if-k-eq0.false)) no_spot in
    omega (arith, last.some)

pub bounds-boxes-boxes : goal.bounds-boxes-boxes
bounds-boxes-boxes c =
    let last = c.requires.last (omega (arith, c.if-k-eq0.false)) no_spot in
    omega (arith, last.some)

pub box_after-requires-clause-ranges : goal.box_after-requires-clause-ranges
box_after-requires-clause-ranges c =
    of_last c.args.computation.now.events (get_or c.args.spots.now (c.args.k - 1) no_spot) c.args.boxes.now
    c.index-boxes-boxes.result c.deref.result.now (c.requires.last (omega (arith, c.if-k-eq0.false)) no_spot)
    c.deref.ensures.value c.index-boxes-boxes.is
