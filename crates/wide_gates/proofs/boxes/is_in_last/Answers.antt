-- The last box.
use Rattle.std.proofs.Common.{◌-◌, false, get_or, arith}
use Rattle.wide_gates.specs.declared.spot.Spot.{Spot}
use Rattle.wide_gates.proofs.Sharing.{is_last, of_last}
use Rattle.wide_gates.proofs.boxes.is_in_last.Goals as goal

abbrev no_spot : Spot
no_spot = record { place = record { process = 0; number = 0 }; after = false }

pub overflow_sub-boxes : goal.overflow_sub-boxes
overflow_sub-boxes c = omega (arith, (c.requires.last c.if-k-gt0.true no_spot).some)

pub bounds-boxes-boxes : goal.bounds-boxes-boxes
bounds-boxes-boxes c = omega (arith, (c.requires.last c.if-k-gt0.true no_spot).some)

pub is_in_box-requires-clause-ranges : goal.is_in_box-requires-clause-ranges
is_in_box-requires-clause-ranges c =
    of_last c.args.computation.now.events (get_or c.args.spots.now (c.args.k - 1) no_spot) c.args.boxes.now
    c.index-boxes-boxes.result c.deref.result.now (c.requires.last c.if-k-gt0.true no_spot) c.deref.ensures.value
    c.index-boxes-boxes.is

pub returns-then-k-gt0 : goal.returns-then-k-gt0
returns-then-k-gt0 c = λ is d.
    is_last c.args.computation.now.events c.args.spots.now c.args.k no_spot d c.args.boxes.now
    c.index-boxes-boxes.result c.deref.result.now c.requires.there (c.requires.last c.if-k-gt0.true no_spot).some
    c.deref.ensures.value c.index-boxes-boxes.is (c.is_in_box.ensures is)
