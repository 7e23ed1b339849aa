-- What a reading is after a batch of lines, and that one that is closed stays.
use Rattle.std.proofs.Common.{◌≡◌, ℕ, List, [], ◌∷◌, ◌++◌, refl, sym, ◌∙◌, ap}
use Rattle.std.specs.Prelude.{Option, Some, None, IfNone, IfSome}
use Rattle.std.proofs.lemmas.List.{append-nil}
use Rattle.def_format.specs.Lines.{FrameFault, Line, all_lines}
use Rattle.def_format.specs.Lines as lines
use Rattle.def_format.specs.Names.{ProcessNames}
use Rattle.def_format.specs.Readings.{EndLine, Ended, Fault, IsClosed, NothingMore, Reading, Stop, StreamKind, not_joined, stop_at_end, with_end}
use Rattle.def_format.specs.ReadingLaws.{LinesAreRead, read_line, read_on, unless_stopped}
use Rattle.def_recordings.specs.Recordings.{long_line, recorded_event_limit, recorded_reading}
use Rattle.pd_events.specs.Progress.{stop_of_fault}
use Rattle.pd_events.specs.Views.{stream_kind_view}
use Rattle.pd_events.specs.declared.fault.StreamFault.{StreamFault}
use Rattle.pd_events.proofs.ReaderSteps.{ends_closed, not_open}
use Rattle.read_recordings.specs.Rests.{EndsBy, GoesOnTo, lines_from, stop_after, stop_from}

-- ---- a reading that is closed

stays_ended : (limit : ℕ) (names : List ProcessNames) (r : Reading) (ls : List Line) → r.stop ≡ EndLine
    → read_on limit names r ls ≡ r
stays_ended limit names r [] e = refl
stays_ended limit names r (l ∷ ls) e =
    ap (λ (s : Stop). read_on limit names (unless_stopped s r (read_line limit names r l)) ls) e
    ∙ stays_ended limit names r ls e

stays_faulty : (limit : ℕ) (names : List ProcessNames) (r : Reading) (number : ℕ) (kind : StreamKind) (ls : List Line)
    → r.stop ≡ Fault number kind → read_on limit names r ls ≡ r
stays_faulty limit names r number kind [] e = refl
stays_faulty limit names r number kind (l ∷ ls) e =
    ap (λ (s : Stop). read_on limit names (unless_stopped s r (read_line limit names r l)) ls) e
    ∙ stays_faulty limit names r number kind ls e

-- what follows the end line or a fault changes nothing
pub closed_stays : (limit : ℕ) (names : List ProcessNames) (stop : Stop) (r : Reading) (ls : List Line)
    → IsClosed r.stop → with_end stop (read_on limit names r ls) ≡ r
closed_stays limit names stop r ls closed = go r.stop refl closed
  where
    go : (s : Stop) → r.stop ≡ s → IsClosed s → with_end stop (read_on limit names r ls) ≡ r
    go NothingMore e h = elim h [ ]
    go EndLine e h = rw (stays_ended limit names r ls e, e) refl
    go (Fault number kind) e h = rw (stays_faulty limit names r number kind ls e, e) refl

-- ---- ends

open_end : (r : Reading) → with_end NothingMore r ≡ r
open_end r = go r.stop refl
  where
    go : (s : Stop) → r.stop ≡ s → with_end NothingMore r ≡ r
    go NothingMore e = rw e refl
    go EndLine e = rw e refl
    go (Fault number kind) e = rw e refl

-- ---- the reading of a stream

same_end : (bytes : List ℕ) (fault : Option FrameFault) → stop_after 1 bytes fault ≡ stop_at_end Ended bytes fault
same_end bytes None = refl
same_end bytes (Some (lines.LineTooLong n)) = refl
same_end bytes (Some (lines.StreamTooLong n)) = refl

pub begin : LinesAreRead → (names : List ProcessNames) (bytes : List ℕ)
    → with_end (stop_from 1 bytes)
    (read_on recorded_event_limit names (not_joined NothingMore) (lines_from 1 bytes)) ≡ recorded_reading names bytes
begin law names bytes =
    rw (same_end bytes (long_line 1 (all_lines bytes)), ← law.first recorded_event_limit names (lines_from 1 bytes))
    refl

-- after a batch that isn't the last
next_batch : LinesAreRead → (limit : ℕ) (names : List ProcessNames) (whole r new : Reading) (number : ℕ)
    (bytes : List ℕ) (ls : List Line) (next : ℕ) (rest : List ℕ)
    → with_end (stop_from number bytes) (read_on limit names r (lines_from number bytes)) ≡ whole
    → GoesOnTo number bytes ls next rest → new ≡ with_end NothingMore (read_on limit names r ls)
    → with_end (stop_from next rest) (read_on limit names new (lines_from next rest)) ≡ whole
next_batch law limit names whole r new number bytes ls next rest before g e =
    rw (
      e,
      open_end (read_on limit names r ls),
      ← law.later limit names r ls (lines_from next rest),
      ← g.same_lines,
      ← g.same_stop,
    ) before

-- after the last one
last_batch : (limit : ℕ) (names : List ProcessNames) (whole r new : Reading) (number : ℕ)
    (bytes : List ℕ) (ls : List Line) (next : ℕ) (rest : List ℕ) (stop : Stop)
    → with_end (stop_from number bytes) (read_on limit names r (lines_from number bytes)) ≡ whole
    → GoesOnTo number bytes ls next rest → EndsBy next rest stop → new ≡ with_end stop (read_on limit names r ls)
    → new ≡ whole
last_batch limit names whole r new number bytes ls next rest stop before g ends e =
    e ∙ ap (λ (s : Stop). with_end s (read_on limit names r ls)) (sym (g.same_stop ∙ ends.same_stop))
    ∙ ap (λ (xs : List Line). with_end (stop_from number bytes) (read_on limit names r xs))
    (sym (g.same_lines ∙ ap (λ (xs : List Line). ls ++ xs) ends.no_line ∙ append-nil ls))
    ∙ before

-- a reading that ends by a fault is closed
closes : (new r : Reading) (end : StreamFault) → new ≡ with_end (stop_of_fault (Some end)) r → IsClosed new.stop
closes new r end e =
    ends_closed new.stop r.stop end.line (stream_kind_view end.kind) (ap (λ (x : Reading). x.stop) e)

-- what a reading is after a batch, read on with the lines that are left
pub after_batch : LinesAreRead → (limit : ℕ) (names : List ProcessNames) (whole r new : Reading) (number : ℕ)
    (bytes : List ℕ) (ls : List Line) (next : ℕ) (rest : List ℕ) (end : Option StreamFault)
    → with_end (stop_from number bytes) (read_on limit names r (lines_from number bytes)) ≡ whole
    → GoesOnTo number bytes ls next rest
    → IfSome end (λ fault. EndsBy next rest (Fault fault.line (stream_kind_view fault.kind)))
    → new ≡ with_end (stop_of_fault end) (read_on limit names r ls)
    → with_end (stop_from next rest) (read_on limit names new (lines_from next rest)) ≡ whole
after_batch law limit names whole r new number bytes ls next rest None before g ends e =
    next_batch law limit names whole r new number bytes ls next rest before g e
after_batch law limit names whole r new number bytes ls next rest (Some end) before g ends e =
    closed_stays limit names (stop_from next rest) new (lines_from next rest)
    (closes new (read_on limit names r ls) end e)
    ∙ last_batch limit names whole r new number bytes ls next rest (Fault end.line (stream_kind_view end.kind)) before g
    ends e

-- what holds if no fault ends a batch holds if the reading is open after it
pub still_open : {P : Type 0} (new r : Reading) (end : Option StreamFault) → new ≡ with_end (stop_of_fault end) r
    → new.stop ≡ NothingMore → IfNone end P → P
still_open new r None e open_stop h = h
still_open new r (Some end) e open_stop h = absurd (not_open new.stop (closes new r end e) open_stop)
