-- The seats that were joined have their rows in the view.
use Rattle.std.proofs.Common.{◌≡◌, ◌++◌, List, [], false, All, length}
use Rattle.def_format.specs.Histories.{fresh_row}
use Rattle.pd_register.specs.Views.{row_value}
use Rattle.pd_register.specs.Seats.{IsSeatOf, stream_count}
use Rattle.pd_register.specs.declared.seat.Seat.{Seat}
use Rattle.pd_register.proofs.SeatFacts.{At}
use Rattle.pd_register.proofs.register.Register.close.Given as goal

abbrev pub invariant-loop-seat : goal.invariant-loop-seat
invariant-loop-seat l = record {
  whole : (l.all.table_id ≡ l.self.table.shared.table_id) × (l.all.me.1 ≡ []) × (l.all.me.0.holds ≡ false);
  own : All (IsSeatOf l.self) l.seats.items;
  first : At l.all.me.0.rows (stream_count l.self, row_value fresh_row);
  collected : (popped : List Seat) × (l.fn.seats.items ≡ l.seats.items ++ popped)
      × All (λ s. At l.all.me.0.rows (s.stream, s.row)) popped;
}

abbrev pub decreases-loop-seat : goal.decreases-loop-seat
decreases-loop-seat l = length l.seats.items
