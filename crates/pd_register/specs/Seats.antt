-- What contracts say of a register, its seats and its watcher.
use Rattle.std.specs.Prelude.{◌≡◌, ℕ, List, [], ◌∷◌, ◌++◌, length, map, All}
use mathlib.Core.List.{IsPrefix}
use Rattle.def_model.specs.Cuts.{indices_from}
use Rattle.def_format.specs.Histories.{Post, Step, post_of, Row, fresh_row, row_after}
use Rattle.pd_register.specs.Views.{history_view, row_view}
use Rattle.pd_register.specs.declared.register.Register.{Register}
use Rattle.pd_register.specs.declared.seat.Seat.{Seat}
use Rattle.pd_register.specs.declared.watcher.Watcher.{Watcher}

-- the number of streams
abbrev pub stream_count : Register → ℕ
stream_count r = r.table.shared.key

-- `new` gave the seat with this register
abbrev pub IsSeatOf : Register → Seat → Type 0
IsSeatOf r s = (s.inner.table_id ≡ r.table.shared.table_id) × (s.inner.me.0.streams ≡ stream_count r)

abbrev pub IsWatcherOf : Register → Watcher → Type 0
IsWatcherOf r w = (w.inner.table_id ≡ r.table.shared.table_id) × (w.inner.me.0.streams ≡ stream_count r)

-- the stream whose steps the seat posts
abbrev pub stream_of : Seat → ℕ
stream_of s = s.stream

-- the row of the seat's posts
abbrev pub posted_row : Seat → Row
posted_row s = row_view s.row

-- the seat is still that of its stream
abbrev pub IsSameSeat : Register → Seat → Seat → Type 0
IsSameSeat r old new = IsSeatOf r new × (stream_of new ≡ stream_of old)

-- the history that the seat has seen
abbrev pub seen_history : Seat → List Post
seen_history s = history_view s.inner.me.0.seen

abbrev pub watched_history : Watcher → List Post
watched_history w = history_view w.inner.me.0.seen

-- all seats of the register, in the order of their streams
abbrev pub AreSeats : Register → List Seat → Type 0
AreSeats r seats =
    (length seats ≡ stream_count r) × (map stream_of seats ≡ indices_from 0 seats) × All (IsSeatOf r) seats

-- the seat has posted and seen nothing
abbrev pub IsFresh : Seat → Type 0
IsFresh s = (posted_row s ≡ fresh_row) × (seen_history s ≡ [])

-- the history ends with the step, before which all stands that was seen
abbrev pub EndsWith : List Post → Post → List Post → Type 0
EndsWith seen e history = (before : List Post) × (history ≡ before ++ e ∷ []) × IsPrefix seen before

-- The step was posted: the seat's row follows it, and it is the last one that the seat has seen. `n` is the length of
-- the history after it.
pub record IsPosted (old : Seat) (step : Step) (new : Seat) (n : ℕ) : Type 0 where
  pub row : posted_row new ≡ row_after (posted_row old) step
  pub count : n ≡ length (seen_history new)
  pub last : EndsWith (seen_history old) (post_of (stream_of old) step) (seen_history new)
