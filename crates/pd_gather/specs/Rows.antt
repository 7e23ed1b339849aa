-- The rows of streams in a register, by their readings, and how an open stream's row goes on.
use Rattle.std.specs.Prelude.{◌≡◌, ℕ, ◌≤◌, ◌⊎◌, length, Option, Some, None}
use Rattle.def_format.specs.Histories.{Row}
use Rattle.def_format.specs.Limits.{event_limit}
use Rattle.def_format.specs.ReadingLaws.{process_of}
use Rattle.def_format.specs.Readings.{Reading, StreamState, Fresh, Joined, HasEnded, Faulted, state}

abbrev pub row : Option ℕ → ℕ → StreamState → Row
row process events state = record { process = process; events = events; state = state }

-- the row of a stream that shows this reading
abbrev pub row_of_reading : Reading → Row
row_of_reading r = row (process_of r.joined) (length r.events) (state r)

-- A stream with this process, this many events and this state: before the join it has no events, and after the join at
-- most as many as a process may have.
abbrev pub IsStreamRow : Option ℕ → ℕ → StreamState → Type 0
IsStreamRow None events Fresh = events ≡ 0
IsStreamRow None events Faulted = events ≡ 0
IsStreamRow None events _ = ⊥
IsStreamRow (Some process) events Fresh = ⊥
IsStreamRow (Some process) events _ = events ≤ event_limit

-- what stays of an open stream with this state: its process, and its events don't get fewer
abbrev pub IsLater : StreamState → Row → Row → Type 0
IsLater Fresh old new = old ≡ row None 0 Fresh
IsLater Joined old new = (old.process ≡ new.process) × (old.events ≤ new.events)
IsLater _ old new = ⊥

-- the stream of the first row is open, and the second is one that it may have later
pub record GoesOnTo (old new : Row) : Type 0 where
  pub old_row : IsStreamRow old.process old.events old.state
  pub new_row : IsStreamRow new.process new.events new.state
  pub later : IsLater old.state old new

-- an open stream that stays as it is, has its end line, or has a fault
abbrev pub CanStop : StreamState → StreamState → Type 0
CanStop Fresh Fresh = Unit {0}
CanStop Fresh Faulted = Unit {0}
CanStop Joined Joined = Unit {0}
CanStop Joined HasEnded = Unit {0}
CanStop Joined Faulted = Unit {0}
CanStop _ _ = ⊥

-- the row of an open stream that has joined this process, with at least and at most this many events
pub record IsJoinedWith (process : Option ℕ) (least most : ℕ) (shown : Row) : Type 0 where
  pub joined : shown ≡ row process shown.events Joined
  pub at_least : least ≤ shown.events
  pub at_most : shown.events ≤ most

-- The posts made so far of those that lead from an open stream's old row to the due one give the new row, and neither
-- the end nor the fault is posted: it is the old row, or has joined the due process and has some of the due events.
abbrev pub HasPosted : (old due new : Row) → Type 0
HasPosted old due new =
    (new ≡ old)
    ⊎ ((process : ℕ)
    × (due.process ≡ Some process)
    × IsJoinedWith (Some process) old.events due.events new)
