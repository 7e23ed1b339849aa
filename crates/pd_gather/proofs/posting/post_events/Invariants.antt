-- The seat's row has as many events as were counted, and what it has seen grows.
use mathlib.Core.List.{IsPrefix}
use Rattle.std.proofs.Common.{◌≡◌}
use Rattle.def_format.specs.Readings.{Joined}
use Rattle.pd_gather.specs.Rows.{row}
use Rattle.pd_register.specs.Seats.{IsSameSeat, posted_row, seen_history}
use Rattle.pd_gather.proofs.posting.post_events.Given as goal

abbrev pub invariant-events : goal.invariant-events
invariant-events g l = record {
  seat : IsSameSeat l.register l.initial.seat l.seat;
  seen : IsPrefix (seen_history l.initial.seat) (seen_history l.seat);
  posted : posted_row l.seat ≡ row (posted_row l.initial.seat).process l.counter Joined;
}
