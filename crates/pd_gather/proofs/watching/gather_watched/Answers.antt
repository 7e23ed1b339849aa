-- The seats are still all seats of the register.
use Rattle.pd_gather.proofs.SeatLists.{still_seats}
use Rattle.pd_gather.proofs.watching.gather_watched.Goals as goal

pub returns-in_err-readings-clause-seats : goal.returns-in_err-readings-clause-seats
returns-in_err-readings-clause-seats g c =
    still_seats c.args.register.now c.args.seats.now c.read_beside.new.seats c.requires.seats
    c.read_beside.ensures.same

pub returns-clause-seats : goal.returns-clause-seats
returns-clause-seats g c =
    still_seats c.args.register.now c.args.seats.now c.read_beside.new.seats c.requires.seats
    c.read_beside.ensures.same
