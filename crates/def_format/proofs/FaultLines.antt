-- The lines that a reading speaks of are few: no line comes after the bytes that a stream may have.
use Rattle.std.proofs.Common.{◌≡◌, ℕ, suc, ◌+◌, ◌<◌, ◌≤◌, Bool, true, false, cond, List, [], ◌∷◌, ◌++◌, length, refl, sym, ap, subst, length-append, arith}
use Rattle.std.specs.Prelude.{Option, Some, None, nat_lt, nat_le, is_some, if◌then◌else◌, not, ◌&&◌, ◌==◌, Result, Ok, Err}
use Rattle.std.specs.List.{AllByRecursion}
use Rattle.std.proofs.lemmas.Bool.Decides.{nat_tests}
use Rattle.std.proofs.lemmas.List.Sums.{count_by-le-length}
use Rattle.def_format.proofs.PartFacts.{length-onto_first}
use Rattle.def_model.specs.Events.{Event}
use Rattle.def_format.specs.Lines.{Line, line_feed, ended_lines, onto_first, unended_line, as_line, all_lines, is_blank, numbered_from, FrameFault, LineTooLong, StreamTooLong, line_number, fault_of_byte, first_fault_of, fault_after, sound_after, frame_fault, sound_part, open_lines, finished_lines, line_count}
use Rattle.def_format.specs.Limits.{line_byte_limit, stream_byte_limit, event_limit}
use Rattle.def_format.specs.Names.{ProcessNames}
use Rattle.def_format.specs.Records.{RecordFault, LineRecord, Joins, Happens, Ends, record_of}
use Rattle.def_format.specs.Readings.{Ending, Open, Ended, Failed, Stop, NothingMore, EndLine, Fault, TooManyEvents, stopped, with_first, Course, course_from, course_of, Reading, reading_from, reading_of_lines, lines_of, stop_at_end, stop_or, reading, Trace, StreamFault, result_by_stop, result_of}
use Rattle.def_format.proofs.LineFacts.{sound-all}

-- the greatest number of a line that is spoken of
abbrev pub last_line : ℕ
last_line = stream_byte_limit + 2

-- ---- bytes before a fault

sound_is_below : (before : List ℕ) (byte : ℕ) → fault_of_byte before byte ≡ None → length before < stream_byte_limit
sound_is_below before byte e =
    let over : nat_le stream_byte_limit (length before) ≡ false =
    go (not (byte == line_feed) && nat_le line_byte_limit (length (unended_line before)))
    (nat_le stream_byte_limit (length before)) (line_number before) e in
    grind (arith, nat_tests)
  where
    go : (a b : Bool) (n : ℕ)
        → (if a then Some (LineTooLong n) else (if b then Some (StreamTooLong n) else None)) ≡ None → b ≡ false
    go true b n e = cc
    go false true n e = cc
    go false false n e = refl

sound_after_within : (before bytes : List ℕ) → length before ≤ stream_byte_limit
    → length before + length (sound_after before bytes) ≤ stream_byte_limit
sound_after_within before [] le = omega arith
sound_after_within before (byte ∷ rest) le =
    go (fault_of_byte before byte) refl (sound_after_within (before ++ byte ∷ []) rest)
  where
    go : (f : Option FrameFault) → fault_of_byte before byte ≡ f
        → (length (before ++ byte ∷ []) ≤ stream_byte_limit
        → length (before ++ byte ∷ []) + length (sound_after (before ++ byte ∷ []) rest) ≤ stream_byte_limit)
        → length before + length (if is_some f then [] else byte ∷ sound_after (before ++ byte ∷ []) rest)
        ≤ stream_byte_limit
    go (Some fault) e more = omega arith
    go None e more =
        let lt : length before < stream_byte_limit = sound_is_below before byte e in
        let l : length (before ++ byte ∷ []) ≡ length before + 1 = length-append before (byte ∷ []) in
        let m : length (before ++ byte ∷ []) + length (sound_after (before ++ byte ∷ []) rest) ≤ stream_byte_limit =
        more (omega arith) in
        omega arith

pub sound_part_within : (bytes : List ℕ) → length (sound_part bytes) ≤ stream_byte_limit
sound_part_within bytes =
    let le : 0 + length (sound_part bytes) ≤ stream_byte_limit = sound_after_within [] bytes (omega arith) in
    omega arith

pub sound_within : (bytes : List ℕ) → frame_fault bytes ≡ None → length bytes ≤ stream_byte_limit
sound_within bytes e =
    subst (λ (x : List ℕ). length x ≤ stream_byte_limit) (sound-all bytes e) (sound_part_within bytes)

abbrev line_of : FrameFault → ℕ
line_of (LineTooLong n) = n
line_of (StreamTooLong n) = n

line_number_within : (before : List ℕ) → line_number before ≤ length before + 1
line_number_within before =
    let le = count_by-le-length (λ byte. byte == line_feed) before in omega (arith, le)

frame_fault_within : (before bytes : List ℕ) → length before ≤ stream_byte_limit → (fault : FrameFault)
    → fault_after before bytes ≡ Some fault → line_of fault ≤ stream_byte_limit + 1
frame_fault_within before [] le fault e = cc
frame_fault_within before (byte ∷ rest) le fault e =
    go (fault_of_byte before byte) refl e (λ lt. frame_fault_within (before ++ byte ∷ []) rest lt fault)
  where
    its_line : (a b : Bool) (n : ℕ) (f : FrameFault)
        → (if a then Some (LineTooLong n) else (if b then Some (StreamTooLong n) else None)) ≡ Some f → line_of f ≡ n
    its_line true b n f e = let same : LineTooLong n ≡ f = cc in sym (ap line_of same)
    its_line false true n f e = let same : StreamTooLong n ≡ f = cc in sym (ap line_of same)
    its_line false false n f e = cc

    go : (f : Option FrameFault) → fault_of_byte before byte ≡ f
        → first_fault_of f (fault_after (before ++ byte ∷ []) rest) ≡ Some fault
        → (length (before ++ byte ∷ []) ≤ stream_byte_limit
        → fault_after (before ++ byte ∷ []) rest ≡ Some fault → line_of fault ≤ stream_byte_limit + 1)
        → line_of fault ≤ stream_byte_limit + 1
    go (Some f) at e more =
        let same : f ≡ fault = cc in
        let n : line_of f ≡ line_number before =
        its_line (not (byte == line_feed) && nat_le line_byte_limit (length (unended_line before)))
        (nat_le stream_byte_limit (length before)) (line_number before) f at in
        let m : line_of f ≡ line_of fault = ap line_of same in
        let w : line_number before ≤ length before + 1 = line_number_within before in
        omega arith
    go None at e more =
        let lt : length before < stream_byte_limit = sound_is_below before byte at in
        let l : length (before ++ byte ∷ []) ≡ length before + 1 = length-append before (byte ∷ []) in
        more (omega arith) e

-- ---- the numbers of lines

ended_within : (bytes : List ℕ) → length (ended_lines bytes) ≤ length bytes
ended_within [] = omega arith
ended_within (byte ∷ rest) = go (byte == line_feed) (ended_within rest)
  where
    go : (b : Bool) → length (ended_lines rest) ≤ length rest
        → length (if b then [] ∷ ended_lines rest else onto_first byte (ended_lines rest)) ≤ suc (length rest)
    go true le = omega arith
    go false le = let e : length (onto_first byte (ended_lines rest)) ≡ length (ended_lines rest) =
        length-onto_first byte (ended_lines rest) in omega arith

all_within : (bytes : List ℕ) → line_count bytes ≤ length bytes + 1
all_within bytes =
    let l : length (all_lines bytes) ≡ length (ended_lines bytes) + length (as_line (unended_line bytes)) =
    length-append (ended_lines bytes) (as_line (unended_line bytes)) in
    let e : length (ended_lines bytes) ≤ length bytes = ended_within bytes in
    let o : length (as_line (unended_line bytes)) ≤ 1 = one (unended_line bytes) in
    omega arith
  where
    one : (rest : List ℕ) → length (as_line rest) ≤ 1
    one [] = omega arith
    one (byte ∷ rest) = omega arith

abbrev AreUpTo : ℕ → List Line → Type 0
AreUpTo last lines = AllByRecursion (λ (line : Line). line.number ≤ last) lines

numbered_within : (last n : ℕ) (lines : List (List ℕ)) → n + length lines ≤ suc last
    → AreUpTo last (numbered_from n lines)
numbered_within last n [] le = tt
numbered_within last n (bytes ∷ others) le =
    go (is_blank bytes) (numbered_within last (suc n) others (omega arith))
  where
    go : (b : Bool) → AreUpTo last (numbered_from (suc n) others)
        → AreUpTo last (if b then numbered_from (suc n) others
        else record { number = n; bytes = bytes } ∷ numbered_from (suc n) others)
    go true more = more
    go false more = (omega arith, more)

open_within : (bytes : List ℕ) → AreUpTo last_line (open_lines bytes)
open_within bytes =
    let s : length (sound_part bytes) ≤ stream_byte_limit = sound_part_within bytes in
    let e : length (ended_lines (sound_part bytes)) ≤ length (sound_part bytes) = ended_within (sound_part bytes) in
    numbered_within last_line 1 (ended_lines (sound_part bytes)) (omega arith)

finished_within : (bytes : List ℕ) → AreUpTo last_line (finished_lines bytes)
finished_within bytes = go (frame_fault bytes) refl
  where
    go : (f : Option FrameFault) → frame_fault bytes ≡ f
        → AreUpTo last_line (if is_some f then open_lines bytes else numbered_from 1 (all_lines bytes))
    go (Some fault) e = open_within bytes
    go None e =
        let s : length bytes ≤ stream_byte_limit = sound_within bytes e in
        let a : line_count bytes ≤ length bytes + 1 = all_within bytes in
        numbered_within last_line 1 (all_lines bytes) (omega arith)

lines_within : (ending : Ending) (bytes : List ℕ) → AreUpTo last_line (lines_of ending bytes)
lines_within Open bytes = open_within bytes
lines_within Ended bytes = finished_within bytes
lines_within Failed bytes = open_within bytes

-- ---- readings

abbrev StopsUpTo : ℕ → Stop → Type 0
StopsUpTo last NothingMore = Unit {0}
StopsUpTo last EndLine = Unit {0}
StopsUpTo last (Fault number kind) = number ≤ last

abbrev JoinsUpTo : ℕ → Option (ℕ × ℕ) → Type 0
JoinsUpTo last None = Unit {0}
JoinsUpTo last (Some joined) = joined.1 ≤ last

course_within : (last : ℕ) (names : List ProcessNames) (process before : ℕ) (lines : List Line) → AreUpTo last lines
    → StopsUpTo last (course_of event_limit names process before lines).stop
course_within last names process before [] all = tt
course_within last names process before (first ∷ later) all =
    go (record_of names (Some process) first.bytes)
    (course_within last names process (suc before) later all.1)
  where
    go : (r : Result LineRecord RecordFault)
        → StopsUpTo last (course_of event_limit names process (suc before) later).stop
        → StopsUpTo last (course_from event_limit before first.number r (course_of event_limit names process
        (suc before) later)).stop
    go (Ok (Joins p)) more = all.0
    go (Ok (Happens event)) more =
        pick (nat_lt before event_limit) (stopped (Fault first.number TooManyEvents)) all.0
      where
        pick : (b : Bool) (other : Course) → StopsUpTo last other.stop
            → StopsUpTo last (cond b (with_first event (course_of event_limit names process
            (suc before) later)) other).stop
        pick true other h = more
        pick false other h = h
    go (Ok Ends) more = tt
    go (Err fault) more = all.0

read_within : (last : ℕ) (names : List ProcessNames) (lines : List Line) → AreUpTo last lines
    → StopsUpTo last (reading_of_lines event_limit names lines).stop × JoinsUpTo last
    (reading_of_lines event_limit names lines).joined
read_within last names [] all = (tt, tt)
read_within last names (first ∷ later) all =
    go (record_of names None first.bytes) (λ process. course_within last names process 0 later all.1)
  where
    go : (r : Result LineRecord RecordFault)
        → ((process : ℕ) → StopsUpTo last (course_of event_limit names process 0 later).stop)
        → StopsUpTo last (reading_from first.number r (λ process. course_of event_limit names process 0 later)).stop
        × JoinsUpTo last (reading_from first.number r (λ process. course_of event_limit names process 0 later)).joined
    go (Ok (Joins p)) more = (more p, all.0)
    go (Ok (Happens event)) more = (all.0, tt)
    go (Ok Ends) more = (all.0, tt)
    go (Err fault) more = (all.0, tt)

end_within : (ending : Ending) (bytes : List ℕ) (fault : Option FrameFault) → frame_fault bytes ≡ fault
    → StopsUpTo last_line (stop_at_end ending bytes fault)
end_within ending bytes (Some (LineTooLong number)) e =
    let le : number ≤ stream_byte_limit + 1 = frame_fault_within [] bytes (omega arith) (LineTooLong number) e in
    omega arith
end_within ending bytes (Some (StreamTooLong number)) e =
    let le : number ≤ stream_byte_limit + 1 = frame_fault_within [] bytes (omega arith) (StreamTooLong number) e in
    omega arith
end_within Open bytes None e = tt
end_within Ended bytes None e =
    let s : length bytes ≤ stream_byte_limit = sound_within bytes e in
    let a : line_count bytes ≤ length bytes + 1 = all_within bytes in
    omega arith
end_within Failed bytes None e =
    let s : length bytes ≤ stream_byte_limit = sound_within bytes e in
    let a : line_number bytes ≤ length bytes + 1 = line_number_within bytes in
    omega arith

-- a result speaks of no later line
abbrev pub ResultIsUpTo : ℕ → Result Trace StreamFault → Type 0
ResultIsUpTo last (Ok trace) = trace.join_line ≤ last
ResultIsUpTo last (Err fault) = fault.line ≤ last

result_within : (last : ℕ) (stop end : Stop) (joined : Option (ℕ × ℕ)) (events : List Event)
    (result : Result Trace StreamFault) → StopsUpTo last stop → StopsUpTo last end → JoinsUpTo last joined
    → result_by_stop (stop_or stop end) joined events ≡ Some result → ResultIsUpTo last result
result_within last NothingMore NothingMore joined events result s t j e = cc
result_within last NothingMore EndLine None events result s t j e = cc
result_within last NothingMore EndLine (Some (p, n)) events result s t j e =
    let same : Ok (record { process = p; join_line = n; events = events }) ≡ result = cc in
    subst (ResultIsUpTo last) same j
result_within last NothingMore (Fault number kind) joined events result s t j e =
    let same : Err (record { line = number; kind = kind }) ≡ result = cc in subst (ResultIsUpTo last) same t
result_within last EndLine end None events result s t j e = cc
result_within last EndLine end (Some (p, n)) events result s t j e =
    let same : Ok (record { process = p; join_line = n; events = events }) ≡ result = cc in
    subst (ResultIsUpTo last) same j
result_within last (Fault number kind) end joined events result s t j e =
    let same : Err (record { line = number; kind = kind }) ≡ result = cc in subst (ResultIsUpTo last) same s

pub result_is_up_to : (names : List ProcessNames) (ending : Ending) (bytes : List ℕ) (result : Result Trace StreamFault)
    → result_of (reading names ending bytes) ≡ Some result → ResultIsUpTo last_line result
result_is_up_to names ending bytes result e =
    let whole : Reading = reading_of_lines event_limit names (lines_of ending bytes) in
    let w = read_within last_line names (lines_of ending bytes) (lines_within ending bytes) in
    result_within last_line whole.stop (stop_at_end ending bytes (frame_fault bytes)) whole.joined whole.events result
    w.0 (end_within ending bytes (frame_fault bytes) refl) w.1 e
