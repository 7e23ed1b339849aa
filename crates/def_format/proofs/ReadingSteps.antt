-- A reading goes on line by line.
use Rattle.std.proofs.Common.{◌≡◌, ℕ, suc, ◌+◌, Bool, true, false, cond, List, [], ◌∷◌, ◌++◌, length, refl, sym, ◌∙◌, ap, append_assoc, length-append, arith}
use Rattle.std.specs.Prelude.{Option, Some, None, nat_lt, Result, Ok, Err}
use Rattle.std.proofs.lemmas.List.{append-nil}
use Rattle.def_model.specs.Events.{Event}
use Rattle.def_format.specs.Lines.{Line, FrameFault, frame_fault, open_lines, finished_lines, line_count, line_number, IsBatch}
use Rattle.def_format.specs.Lines as lines
use Rattle.def_format.specs.Names.{ProcessNames}
use Rattle.def_format.specs.Records.{RecordFault, Join, LineRecord, Joins, Happens, Ends, record_of}
use Rattle.def_format.specs.Readings.{Open, Ended, Failed, Stop, NothingMore, EndLine, Fault, InRecord, TooManyEvents, Unended, ReadFailed, stopped, Course, with_first, course_from, course_of, Reading, not_joined, reading_from, reading_of_lines, stop_at_end, with_end, reading, StreamKind}
use Rattle.def_format.specs.Limits.{event_limit}
use Rattle.def_format.specs.ReadingLaws.{stopped_by, after_record, read_line, unless_stopped, read_on, LinesAreRead}

abbrev after_course : ℕ → ℕ → List Event → Course → Reading
after_course process number events course =
    record { joined = Some (process, number); events = events ++ course.events; stop = course.stop }

-- what has its end line stays, and so does what has a fault
stays_ended : (limit : ℕ) (names : List ProcessNames) (joined : Option (ℕ × ℕ)) (events : List Event) (ls : List Line)
    → read_on limit names (record { joined = joined; events = events; stop = EndLine }) ls
    ≡ record { joined = joined; events = events; stop = EndLine }
stays_ended limit names joined events [] = refl
stays_ended limit names joined events (l ∷ ls) = stays_ended limit names joined events ls

stays_faulty : (limit : ℕ) (names : List ProcessNames) (joined : Option (ℕ × ℕ)) (events : List Event) (number : ℕ)
    (kind : StreamKind) (ls : List Line)
    → read_on limit names (record { joined = joined; events = events; stop = Fault number kind }) ls
    ≡ record { joined = joined; events = events; stop = Fault number kind }
stays_faulty limit names joined events number kind [] = refl
stays_faulty limit names joined events number kind (l ∷ ls) = stays_faulty limit names joined events number kind ls

-- the lines after the join
after_join : (limit : ℕ) (names : List ProcessNames) (process number : ℕ) (events : List Event) (ls : List Line)
    → read_on limit names (record { joined = Some (process, number); events = events; stop = NothingMore }) ls
    ≡ after_course process number events (course_of limit names process (length events) ls)
after_join limit names process number events [] =
    ap (λ (es : List Event). record { joined = Some (process, number); events = es; stop = NothingMore })
    (sym (append-nil events))
after_join limit names process number events (l ∷ ls) =
    go (record_of names (Some process) l.bytes) (λ event. after_join limit names process number
    (events ++ event ∷ []) ls)
  where
    closed : (stop : Stop) → record { joined = Some (process, number); events = events; stop = stop }
        ≡ after_course process number events (stopped stop)
    closed stop =
        ap (λ (es : List Event). record { joined = Some (process, number); events = es; stop = stop })
        (sym (append-nil events))

    more : (event : Event) → after_course process number (events ++ event ∷ [])
        (course_of limit names process (length (events ++ event ∷ [])) ls)
        ≡ after_course process number events (with_first event (course_of limit names process (suc (length events)) ls))
    more event =
        let count : length (events ++ event ∷ []) ≡ suc (length events) = length-append events (event ∷ [])
        ∙ (omega arith) in
        rw (
          count,
          append_assoc events (event ∷ []) (course_of limit names process (suc
              (length events)) ls).events,
        ) refl

    at_event : (event : Event) → read_on limit names (record {
      joined = Some (process, number);
      events =
          events ++ event ∷ [];
      stop = NothingMore;
    }) ls
        ≡ after_course process number (events ++ event ∷ [])
        (course_of limit names process (length (events ++ event ∷ [])) ls) → (b : Bool)
        → read_on limit names (cond b (record {
          joined = Some (process, number);
          events = events ++ event ∷ [];
          stop =
              NothingMore;
        }) (record {
          joined = Some (process, number);
          events = events;
          stop =
              Fault l.number TooManyEvents;
        })) ls
        ≡ after_course process number events
        (cond b (with_first event (course_of limit names process (suc (length events)) ls))
        (stopped (Fault l.number TooManyEvents)))
    at_event event ih true = ih ∙ more event
    at_event event ih false = stays_faulty limit names (Some (process, number)) events l.number TooManyEvents ls
        ∙ closed (Fault l.number TooManyEvents)

    go : (r : Result LineRecord RecordFault)
        → ((event : Event) → read_on limit names (record {
          joined = Some (process, number);
          events =
              events ++ event ∷ [];
          stop = NothingMore;
        }) ls
        ≡ after_course process number (events ++ event ∷ [])
        (course_of limit names process (length (events ++ event ∷ [])) ls))
        → read_on limit names (after_record limit (Some (process, number)) (record {
          joined = Some (process, number);
          events =
              events;
          stop = NothingMore;
        }) l.number r) ls
        ≡ after_course process number events
        (course_from limit (length events) l.number r (course_of limit names process (suc (length events)) ls))
    go (Ok (Joins p)) ih = stays_faulty limit names (Some (process, number)) events l.number (InRecord Join) ls
        ∙ closed (Fault l.number (InRecord Join))
    go (Ok (Happens event)) ih = at_event event (ih event) (nat_lt (length events) limit)
    go (Ok Ends) ih = stays_ended limit names (Some (process, number)) events ls ∙ closed EndLine
    go (Err fault) ih = stays_faulty limit names (Some (process, number)) events l.number (InRecord fault) ls
        ∙ closed (Fault l.number (InRecord fault))

pub from_start : (limit : ℕ) (names : List ProcessNames) (ls : List Line)
    → read_on limit names (not_joined NothingMore) ls
    ≡ reading_of_lines limit names ls
from_start limit names [] = refl
from_start limit names (l ∷ ls) = go (record_of names None l.bytes)
  where
    go : (r : Result LineRecord RecordFault)
        → read_on limit names (after_record limit None (not_joined NothingMore) l.number r) ls
        ≡ reading_from l.number r (λ process. course_of limit names process 0 ls)
    go (Ok (Joins process)) = after_join limit names process l.number [] ls
    go (Ok (Happens event)) = stays_faulty limit names None [] l.number (InRecord Join) ls
    go (Ok Ends) = stays_faulty limit names None [] l.number (InRecord Join) ls
    go (Err fault) = stays_faulty limit names None [] l.number (InRecord fault) ls

read_on-append : (limit : ℕ) (names : List ProcessNames) (r : Reading) (xs ys : List Line)
    → read_on limit names r (xs ++ ys) ≡ read_on limit names (read_on limit names r xs) ys
read_on-append limit names r [] ys = refl
read_on-append limit names r (x ∷ xs) ys = read_on-append limit names (unless_stopped r.stop r
    (read_line limit names r x)) xs ys

pub lines_read_on : (limit : ℕ) (names : List ProcessNames) (ls new : List Line)
    → reading_of_lines limit names (ls ++ new)
    ≡ read_on limit names (reading_of_lines limit names ls) new
lines_read_on limit names ls new =
    sym (from_start limit names (ls ++ new)) ∙ read_on-append limit names (not_joined NothingMore) ls new
    ∙ ap (λ r. read_on limit names r new) (from_start limit names ls)

-- ---- an open reading

record IsOpenReading (names : List ProcessNames) (bytes : List ℕ) : Type 0 where
  sound : frame_fault bytes ≡ None
  same : reading names Open bytes ≡ reading_of_lines event_limit names (open_lines bytes)

open_reading : (names : List ProcessNames) (bytes : List ℕ) → (reading names Open bytes).stop ≡ NothingMore
    → IsOpenReading names bytes
open_reading names bytes h = go (reading_of_lines event_limit names (open_lines bytes)).stop refl
    (frame_fault bytes) refl
  where
    r : Reading
    r = reading_of_lines event_limit names (open_lines bytes)

    go : (stop : Stop) → (reading_of_lines event_limit names (open_lines bytes)).stop ≡ stop → (f : Option FrameFault)
        → frame_fault bytes ≡ f → IsOpenReading names bytes
    go EndLine e f g = absurd (let bad = rw e at h in cc)
    go (Fault number kind) e f g = absurd (let bad = rw e at h in cc)
    go NothingMore e (Some (lines.LineTooLong n)) g = absurd (let bad = rw (e, g) at h in cc)
    go NothingMore e (Some (lines.StreamTooLong n)) g = absurd (let bad = rw (e, g) at h in cc)
    go NothingMore e None g =
        record {
          sound = g;
          same =
              ap (λ (s : Stop). stopped_by (reading_of_lines event_limit names (open_lines bytes)) s) (h ∙ sym e);
        }

pub open_is_sound : (names : List ProcessNames) (bytes : List ℕ) → (reading names Open bytes).stop ≡ NothingMore
    → frame_fault bytes ≡ None
open_is_sound names bytes h = (open_reading names bytes h).sound

pub reading_goes_on : (names : List ProcessNames) (bytes piece : List ℕ) (ls : List Line) (fault : Option FrameFault)
    → (reading names Open bytes).stop ≡ NothingMore → IsBatch bytes piece ls fault → reading names Open (bytes ++ piece)
    ≡ with_end (stop_at_end Open (bytes ++ piece) fault) (read_on event_limit names (reading names Open bytes) ls)
reading_goes_on names bytes piece ls fault h batch =
    rw (
      (open_reading names bytes h).same,
      ← lines_read_on event_limit names (open_lines bytes) ls,
      ← batch.new_lines,
      ← batch.same_fault,
    ) refl

pub reading_ends : (names : List ProcessNames) (bytes : List ℕ) (ls : List Line) → (reading names Open bytes).stop
    ≡ NothingMore → finished_lines bytes ≡ open_lines bytes ++ ls
    → reading names Ended bytes ≡ with_end (Fault (line_count bytes + 1) Unended)
    (read_on event_limit names (reading names Open bytes) ls)
reading_ends names bytes ls h e =
    rw (
      (open_reading names bytes h).same,
      ← lines_read_on event_limit names (open_lines bytes) ls,
      ← e,
      (open_reading names bytes h).sound,
    ) refl

pub reading_fails : (names : List ProcessNames) (bytes : List ℕ) → (reading names Open bytes).stop ≡ NothingMore
    → reading names Failed bytes ≡ stopped_by (reading names Open bytes) (Fault (line_number bytes) ReadFailed)
reading_fails names bytes h =
    let o = open_reading names bytes h in
    let open_stop : (reading_of_lines event_limit names (open_lines bytes)).stop ≡ NothingMore =
    sym (ap (λ (r : Reading). r.stop) o.same) ∙ h in
    rw (o.sound, open_stop) refl

-- ---- the laws of lines

pub lines_are_read : LinesAreRead
lines_are_read = record {
  first = λ limit names lines. sym (from_start limit names lines);
  later = λ limit names r lines more. read_on-append limit names r lines more;
}
