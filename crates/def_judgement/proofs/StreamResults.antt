-- What streams come to: a closed reading has a result, a stream that has ended is closed, and results are one list.
use Rattle.std.proofs.Common.{◌≡◌, ℕ, List, [], ◌∷◌, length, All, refl}
use Rattle.std.specs.Prelude.{◌≢◌, Option, Some, None, Result, Ok, Err}
use Rattle.std.specs.List.{AllZip}
use Rattle.std.proofs.lemmas.List.Elements.{All-nil, All-cons, All-head, All-tail}
use Rattle.std.proofs.lemmas.Slice.Zip.{AllZip-long}
use Rattle.def_model.specs.Events.{Event}
use Rattle.def_format.specs.Lines.{Line, FrameFault, frame_fault}
use Rattle.def_format.specs.Lines as lines
use Rattle.def_format.specs.Names.{ProcessNames}
use Rattle.def_format.specs.Records.{RecordFault, LineRecord, Joins, Happens, Ends, record_of}
use Rattle.def_format.specs.Limits.{event_limit}
use Rattle.def_format.specs.Readings.{Ending, Open, Ended, Failed, Stop, NothingMore, EndLine, Fault, Course, course_of, Reading, reading_from, reading_of_lines, lines_of, stop_at_end, stop_or, reading, IsClosed, by_end_line, by_fault, result_by_stop, result_of}
use Rattle.def_format.specs.Sessions.{StreamResult}
use Rattle.def_judgement.specs.Judgements.{RawStream, ended_streams, IsResultOf, AreResultsOf}
use Rattle.def_judgement.specs.StreamResults.{HasStopped, EndedHaveResults, OneListOfResults}
use Rattle.def_judgement.specs.Writes.{IsGivenAs, Source}
use Rattle.def_judgement.proofs.Zipped.{one_zipped}

-- ---- one stream

pub one_result : (names : List ProcessNames) (stream : RawStream) (a b : StreamResult) → IsResultOf names stream a
    → IsResultOf names stream b → a ≡ b
one_result names stream a b p q = cc

-- lines come to their end line only after a join
joined_at_end : (number : ℕ) (first : Result LineRecord RecordFault) (later : ℕ → Course)
    → (reading_from number first later).stop ≡ EndLine
    → (joined : ℕ × ℕ) × ((reading_from number first later).joined ≡ Some joined)
joined_at_end number (Ok (Joins process)) later e = ((process, number), refl)
joined_at_end number (Ok (Happens event)) later e = cc
joined_at_end number (Ok Ends) later e = cc
joined_at_end number (Err fault) later e = cc

lines_joined_at_end : (names : List ProcessNames) (all : List Line)
    → (reading_of_lines event_limit names all).stop ≡ EndLine
    → (joined : ℕ × ℕ) × ((reading_of_lines event_limit names all).joined ≡ Some joined)
lines_joined_at_end names [] e = cc
lines_joined_at_end names (first ∷ later) e =
    joined_at_end first.number (record_of names None first.bytes)
    (λ process. course_of event_limit names process 0 later) e

no_end_line : (ending : Ending) (bytes : List ℕ) (fault : Option FrameFault) → stop_at_end ending bytes fault ≢ EndLine
no_end_line ending bytes (Some (lines.LineTooLong number)) e = cc
no_end_line ending bytes (Some (lines.StreamTooLong number)) e = cc
no_end_line Open bytes None e = cc
no_end_line Ended bytes None e = cc
no_end_line Failed bytes None e = cc

stop_gives : (stop end : Stop) (joined : Option (ℕ × ℕ)) (events : List Event)
    → (stop ≡ EndLine → (j : ℕ × ℕ) × (joined ≡ Some j)) → end ≢ EndLine → IsClosed (stop_or stop end)
    → (result : StreamResult) × (result_by_stop (stop_or stop end) joined events ≡ Some result)
stop_gives NothingMore NothingMore joined events has other closed = elim closed [ ]
stop_gives NothingMore EndLine joined events has other closed = absurd (other refl)
stop_gives NothingMore (Fault number kind) joined events has other closed =
    (Err (record { line = number; kind = kind }), refl)
stop_gives EndLine end (Some (process, line)) events has other closed =
    (Ok (record { process = process; join_line = line; events = events }), refl)
stop_gives EndLine end None events has other closed = let j = has refl in cc
stop_gives (Fault number kind) end joined events has other closed =
    (Err (record { line = number; kind = kind }), refl)

-- a closed reading has a result
pub closed_gives : (names : List ProcessNames) (ending : Ending) (bytes : List ℕ)
    → IsClosed (reading names ending bytes).stop
    → (result : StreamResult) × (result_of (reading names ending bytes) ≡ Some result)
closed_gives names ending bytes closed =
    let whole : Reading = reading_of_lines event_limit names (lines_of ending bytes) in
    stop_gives whole.stop (stop_at_end ending bytes (frame_fault bytes)) whole.joined whole.events
    (lines_joined_at_end names (lines_of ending bytes)) (no_end_line ending bytes (frame_fault bytes)) closed

end_closes : (ending : Ending) (bytes : List ℕ) (fault : Option FrameFault) → ending ≢ Open
    → IsClosed (stop_at_end ending bytes fault)
end_closes ending bytes (Some (lines.LineTooLong number)) ended = by_fault
end_closes ending bytes (Some (lines.StreamTooLong number)) ended = by_fault
end_closes Open bytes None ended = absurd (ended refl)
end_closes Ended bytes None ended = by_fault
end_closes Failed bytes None ended = by_fault

closes_after : (stop end : Stop) → IsClosed end → IsClosed (stop_or stop end)
closes_after NothingMore end closed = closed
closes_after EndLine end closed = by_end_line
closes_after (Fault number kind) end closed = by_fault

-- a stream that has ended is closed
pub ended_closed : (names : List ProcessNames) (ending : Ending) (bytes : List ℕ) → ending ≢ Open
    → IsClosed (reading names ending bytes).stop
ended_closed names ending bytes ended =
    closes_after (reading_of_lines event_limit names (lines_of ending bytes)).stop (stop_at_end ending bytes
    (frame_fault bytes))
    (end_closes ending bytes (frame_fault bytes) ended)

-- ---- all streams

abbrev pub HasClosedReading : List ProcessNames → RawStream → Type 0
HasClosedReading names stream = IsClosed (reading names stream.ending stream.bytes).stop

-- streams whose readings are closed have results
pub closed_have_results : (names : List ProcessNames) (streams : List RawStream)
    → All (HasClosedReading names) streams → (results : List StreamResult) × AreResultsOf names streams results
closed_have_results names [] closed = ([], tt)
closed_have_results names (first ∷ later) closed =
    let one = closed_gives names first.ending first.bytes (All-head (HasClosedReading names) first later closed) in
    let rest = closed_have_results names later (All-tail (HasClosedReading names) first later closed) in
    (one.0 ∷ rest.0, (one.1, rest.1))

all_closed : (names : List ProcessNames) (streams : List RawStream) → All HasStopped streams
    → All (HasClosedReading names) streams
all_closed names [] ended = All-nil (HasClosedReading names)
all_closed names (first ∷ later) ended =
    All-cons (HasClosedReading names) first later
    (ended_closed names first.ending first.bytes (All-head HasStopped first later ended))
    (all_closed names later (All-tail HasStopped first later ended))

pub ended_have_results : EndedHaveResults
ended_have_results names streams ended = closed_have_results names streams (all_closed names streams ended)

pub one_list_of_results_lem : OneListOfResults
one_list_of_results_lem names streams a b p q =
    one_zipped (IsResultOf names) (one_result names) streams a b p q

-- as many results as streams
pub as_many_results : (names : List ProcessNames) (streams : List RawStream) (results : List StreamResult)
    → AreResultsOf names streams results → length results ≡ length streams
as_many_results names streams results are = AllZip-long (IsResultOf names) streams results are

-- the streams of a bundle have ended
pub ended_streams_ended : (parts : List (List ℕ)) → All HasStopped (ended_streams parts)
ended_streams_ended [] = All-nil HasStopped
ended_streams_ended (first ∷ later) =
    All-cons HasStopped (record { ending = Ended; bytes = first }) (ended_streams later) (λ e. cc)
    (ended_streams_ended later)

-- what sources gave has ended
pub given_ended : (inputs : List Source) (streams : List RawStream) → AllZip IsGivenAs inputs streams
    → All HasStopped streams
given_ended [] [] given = All-nil HasStopped
given_ended [] (s ∷ streams) given = absurd given
given_ended (x ∷ inputs) [] given = absurd given
given_ended (x ∷ inputs) (s ∷ streams) given =
    All-cons HasStopped s streams given.0.given_by.stopped (given_ended inputs streams given.1)
