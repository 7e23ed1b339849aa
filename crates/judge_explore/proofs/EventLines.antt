-- The lines of a stream that holds a trace.
use Rattle.std.proofs.Common.{◌≡◌, ℕ, suc, Bool, true, false, cond, List, [], ◌∷◌, ◌++◌, refl, ap, subst, ◌∙◌}
use Rattle.std.specs.Prelude.{Option, Some, None, nat_lt, Result, Ok, Err}
use Rattle.std.specs.List.{AllZip}
use Rattle.def_model.specs.Events.{Event}
use Rattle.def_format.specs.Limits.{event_limit}
use Rattle.def_format.specs.Lines.{FrameFault, Line, LineTooLong, StreamTooLong, finished_lines, frame_fault}
use Rattle.def_format.specs.Names.{ProcessNames}
use Rattle.def_format.specs.Readings.{Course, EndLine, Ended, Fault, NothingMore, Reading, Stop, StreamFault, TooManyEvents, Trace, course_from, course_of, reading_from, reading_of_lines, result_by_stop, stop_at_end, stop_or, stopped, with_first}
use Rattle.def_format.specs.Records.{Ends, Happens, Joins, LineRecord, RecordFault, record_of}
use Rattle.judge_explore.specs.EventLines.{EventsAreRecorded, Records}

-- ---- the lines after the join

record HasLines (names : List ProcessNames) (process : ℕ) (events : List Event) (lines : List Line) : Type 0 where
  own : List Line
  others : List Line
  parts : lines ≡ own ++ others
  recorded : AllZip (Records names process) events own

course_lines : (names : List ProcessNames) (process before : ℕ) (lines : List Line)
    → (course_of event_limit names process before lines).stop ≡ EndLine
    → HasLines names process (course_of event_limit names process before lines).events lines
course_lines names process before [] ended = absurd (cc ended)
course_lines names process before (first ∷ later) ended =
    go (record_of names (Some process) first.bytes) refl (course_lines names process (suc before) later) ended
  where
    rest : Course
    rest = course_of event_limit names process (suc before) later

    go : (r : Result LineRecord RecordFault) → record_of names (Some process) first.bytes ≡ r
        → (rest.stop ≡ EndLine → HasLines names process rest.events later)
        → (course_from event_limit before first.number r rest).stop ≡ EndLine
        → HasLines names process (course_from event_limit before first.number r rest).events (first ∷ later)
    go (Ok (Joins p)) is more ended = absurd (cc ended)
    go (Ok (Happens event)) is more ended = pick (nat_lt before event_limit) ended
      where
        other : Course
        other = stopped (Fault first.number TooManyEvents)

        pick : (b : Bool) → (cond b (with_first event rest) other).stop ≡ EndLine
            → HasLines names process (cond b (with_first event rest) other).events (first ∷ later)
        pick true ended =
            let found = more ended in
            record {
              own = first ∷ found.own;
              others = found.others;
              parts = ap (λ (ls : List Line). first ∷ ls) found.parts;
              recorded = (is, found.recorded);
            }
        pick false ended = absurd (cc ended)
    go (Ok Ends) is more ended = record { own = []; others = first ∷ later; parts = refl; recorded = tt }
    go (Err fault) is more ended = absurd (cc ended)

-- ---- the end

not_the_end : (bytes : List ℕ) (fault : Option FrameFault) → stop_at_end Ended bytes fault ≡ EndLine → ⊥
not_the_end bytes None e = absurd (cc e)
not_the_end bytes (Some (LineTooLong number)) e = absurd (cc e)
not_the_end bytes (Some (StreamTooLong number)) e = absurd (cc e)

-- a reading that gives a trace ended by its end line
record Gives (stop : Stop) (joined : Option (ℕ × ℕ)) (events : List Event) (trace : Trace) : Type 0 where
  ended : stop ≡ EndLine
  joins : joined ≡ Some (trace.process, trace.join_line)
  same : events ≡ trace.events

trace_in : Trace → Option (Result Trace StreamFault) → Trace
trace_in other None = other
trace_in other (Some (Ok trace)) = trace
trace_in other (Some (Err fault)) = other

gives : (stop last : Stop) (joined : Option (ℕ × ℕ)) (events : List Event) (trace : Trace) → (last ≡ EndLine → ⊥)
    → result_by_stop (stop_or stop last) joined events ≡ Some (Ok trace) → Gives stop joined events trace
unfolding trace_in
gives NothingMore NothingMore joined events trace not_end is = absurd (cc is)
gives NothingMore EndLine joined events trace not_end is = absurd (not_end refl)
gives NothingMore (Fault number kind) joined events trace not_end is = absurd (cc is)
gives (Fault number kind) last joined events trace not_end is = absurd (cc is)
gives EndLine last None events trace not_end is = absurd (cc is)
gives EndLine last (Some (process, line)) events trace not_end is =
    let made : Trace = record { process = process; join_line = line; events = events } in
    let same : made ≡ trace = ap (trace_in made) is in
    record {
      ended = refl;
      joins = ap (λ (t : Trace). Some (t.process, t.join_line)) same;
      same = ap (λ (t : Trace). t.events) same;
    }

-- ---- all lines

process_in : Option (ℕ × ℕ) → ℕ
process_in None = 0
process_in (Some joined) = joined.0

lines_recorded : (names : List ProcessNames) (lines : List Line) (trace : Trace)
    → Gives (reading_of_lines event_limit names lines).stop (reading_of_lines event_limit names lines).joined
    (reading_of_lines event_limit names lines).events trace
    → (join : Line) × (own : List Line) × (others : List Line) × (lines ≡ join ∷ (own ++ others))
    × (record_of names None join.bytes ≡ Ok (Joins trace.process))
    × AllZip (Records names trace.process) trace.events own
unfolding process_in
lines_recorded names [] trace given = absurd (cc given.ended)
lines_recorded names (first ∷ later) trace given = go (record_of names None first.bytes) refl given
  where
    courses : ℕ → Course
    courses = λ process. course_of event_limit names process 0 later

    Found : Type 0
    Found = (join : Line) × (own : List Line) × (others : List Line) × (first ∷ later ≡ join ∷ (own ++ others))
        × (record_of names None join.bytes ≡ Ok (Joins trace.process))
        × AllZip (Records names trace.process) trace.events own

    go : (r : Result LineRecord RecordFault) → record_of names None first.bytes ≡ r
        → Gives (reading_from first.number r courses).stop (reading_from first.number r courses).joined
        (reading_from first.number r courses).events trace → Found
    go (Ok (Joins process)) is given =
        let found = course_lines names process 0 later given.ended in
        let same : process ≡ trace.process = ap process_in given.joins in (
          first,
          found.own,
          found.others,
          ap (λ (ls : List Line). first ∷ ls) found.parts,
          is ∙ ap (λ (p : ℕ). Ok (Joins p)) same,
          subst (λ (p : ℕ). AllZip (Records names p) trace.events found.own) same
              (subst (λ (events : List Event). AllZip (Records names process) events found.own) given.same
              found.recorded),
        )
    go (Ok (Happens event)) is given = absurd (cc given.ended)
    go (Ok Ends) is given = absurd (cc given.ended)
    go (Err fault) is given = absurd (cc given.ended)

pub events_recorded : EventsAreRecorded
events_recorded names bytes trace is =
    let read : Reading = reading_of_lines event_limit names (finished_lines bytes) in
    let found = lines_recorded names (finished_lines bytes) trace
    (gives read.stop (stop_at_end Ended bytes (frame_fault bytes)) read.joined read.events trace
    (not_the_end bytes (frame_fault bytes)) is) in
    record {
      join = found.0;
      own = found.1;
      others = found.2;
      are_lines = found.3;
      joined = found.4;
      recorded = found.5;
    }
