-- What some threads that read streams begin with, and what they leave and give.
use mathlib.Core.List.{IsPrefix}
use Rattle.std.specs.Prelude.{◌≡◌, Bool, false, List, All, Result, length, map}
use Rattle.std.specs.List.{AllZip}
use Rattle.read_traces.specs.declared.event.Trace.{Trace}
use Rattle.pd_events.specs.declared.fault.StreamFault.{StreamFault}
use Rattle.def_format.specs.Histories.{fresh_row}
use Rattle.def_format.specs.Names.{ProcessNames}
use Rattle.pd_register.specs.Seats.{IsSeatOf, posted_row, seen_history, stream_of}
use Rattle.pd_register.specs.declared.register.Register.{Register}
use Rattle.pd_register.specs.declared.seat.Seat.{Seat}
use Rattle.def_judgement.specs.Writes.{Source}
use Rattle.pd_gather.specs.ReadStreams.{AreReadOf, LeavesRow}
use Rattle.pd_gather.specs.Views.{ReadingFits, results_view}

-- the readers may be asked, and each has a seat that has posted nothing
pub record AreReady {R : Type 0} (has_ended : R → Bool) (register : Register) (readers : List R) (seats : List Seat) :
    Type 0 where
  pub one_each : length readers ≡ length seats
  pub own : All (λ s. IsSeatOf register s) seats
  pub fresh : All (λ s. posted_row s ≡ fresh_row) seats
  pub more : All (λ r. has_ended r ≡ false) readers

-- the seats are still those of the same streams
pub record AreSameSeats (register : Register) (old new : List Seat) : Type 0 where
  pub len : length new ≡ length old
  pub same : map stream_of new ≡ map stream_of old
  pub own : All (λ s. IsSeatOf register s) new

-- what each seat has seen grows
pub record KeepsSeen (old new : List Seat) : Type 0 where
  pub grows : AllZip (λ o n. IsPrefix (seen_history o) (seen_history n)) old new

-- each seat has the row that the reading of its source left, whole or in part
pub record LeavesSeats (names : List ProcessNames) (inputs : List Source) (seats : List Seat) : Type 0 where
  pub rows : AllZip (LeavesRow names) inputs (map posted_row seats)

-- the readings are those of what the sources gave, and the seats' rows are theirs
pub record HasGathered (names : List ProcessNames) (inputs : List Source)
    (readings : List (Result Trace StreamFault)) (seats : List Seat) : Type 0 where
  pub read : AreReadOf names inputs (results_view readings) (map posted_row seats)
  pub fit : All (ReadingFits names) readings
