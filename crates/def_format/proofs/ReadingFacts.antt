-- A reading that has its end line or a fault stays as it is.
use Rattle.std.proofs.Common.{◌≡◌, ℕ, suc, ◌+◌, Bool, true, false, cond, List, [], ◌∷◌, ◌++◌, length, refl, sym, ◌∙◌, ap, append_assoc}
use Rattle.std.specs.Prelude.{Option, Some, None, nat_lt, Result, Ok, Err}
use Rattle.def_format.specs.Lines.{Line, FrameFault, ended_lines, unended_line, as_line, numbered_from, frame_fault, open_lines, finished_lines}
use Rattle.def_format.specs.Lines as lines
use Rattle.def_format.specs.Names.{ProcessNames}
use Rattle.def_format.specs.Records.{RecordFault, LineRecord, Joins, Happens, Ends, record_of}
use Rattle.def_format.specs.Readings.{Ending, Open, Ended, Failed, Stop, NothingMore, EndLine, Fault, IsClosed, TooManyEvents, stopped, Course, with_first, course_from, course_of, Reading, reading_from, reading_of_lines, lines_of, stop_at_end, stop_or, with_end, reading}
use Rattle.def_format.specs.Limits.{event_limit}
use Rattle.def_format.proofs.LineFacts.{lines_go_on_lem, fault-stays, sound-all, numbered-append}

course_from-same : (n number : ℕ) (r : Result LineRecord RecordFault) (later new : Course)
    → (IsClosed later.stop → new ≡ later) → IsClosed (course_from event_limit n number r later).stop
    → course_from event_limit n number r new ≡ course_from event_limit n number r later
course_from-same n number (Ok (Joins p)) later new same closed = refl
course_from-same n number (Ok (Happens event)) later new same closed =
    go (nat_lt n event_limit) (stopped (Fault number TooManyEvents)) closed
  where
    go : (b : Bool) (other : Course) → IsClosed (cond b (with_first event later) other).stop
        → cond b (with_first event new) other ≡ cond b (with_first event later) other
    go true other h = ap (with_first event) (same h)
    go false other h = refl
course_from-same n number (Ok Ends) later new same closed = refl
course_from-same n number (Err fault) later new same closed = refl

course-same : (names : List ProcessNames) (process n : ℕ) (ls new : List Line)
    → IsClosed (course_of event_limit names process n ls).stop → course_of event_limit names process n (ls ++ new)
    ≡ course_of event_limit names process n ls
course-same names process n [] new closed = elim closed [ ]
course-same names process n (l ∷ ls) new closed =
    course_from-same n l.number (record_of names (Some process) l.bytes) (course_of event_limit names process
    (suc n) ls)
    (course_of event_limit names process (suc n) (ls ++ new)) (course-same names process (suc n) ls new) closed

reading_from-same : (number : ℕ) (r : Result LineRecord RecordFault) (later new : ℕ → Course)
    → ((process : ℕ) → IsClosed (later process).stop → new process ≡ later process)
    → IsClosed (reading_from number r later).stop → reading_from number r new ≡ reading_from number r later
reading_from-same number (Ok (Joins p)) later new same closed =
    ap (λ (c : Course). record { joined = Some (p, number); events = c.events; stop = c.stop }) (same p closed)
reading_from-same number (Ok (Happens event)) later new same closed = refl
reading_from-same number (Ok Ends) later new same closed = refl
reading_from-same number (Err fault) later new same closed = refl

lines-same : (names : List ProcessNames) (ls new : List Line) → IsClosed (reading_of_lines event_limit names ls).stop
    → reading_of_lines event_limit names (ls ++ new) ≡ reading_of_lines event_limit names ls
lines-same names [] new closed = elim closed [ ]
lines-same names (l ∷ ls) new closed =
    reading_from-same l.number (record_of names None l.bytes) (λ p. course_of event_limit names p 0 ls)
    (λ p. course_of event_limit names p 0 (ls ++ new)) (λ p. course-same names p 0 ls new) closed

-- if the lines are closed, the end adds nothing
end-same : (r : Reading) (stop : Stop) → IsClosed r.stop → with_end stop r ≡ r
end-same r stop closed = ap (λ s. record { joined = r.joined; events = r.events; stop = s }) (same r.stop closed)
  where
    same : (s : Stop) → IsClosed s → stop_or s stop ≡ s
    same NothingMore closed = elim closed [ ]
    same EndLine closed = refl
    same (Fault number kind) closed = refl

nothing_more : (s : Stop) → stop_or s NothingMore ≡ s
nothing_more NothingMore = refl
nothing_more EndLine = refl
nothing_more (Fault number kind) = refl

-- however more bytes end, their lines begin with these
lines_begin : (ending : Ending) (bytes more : List ℕ) → frame_fault bytes ≡ None → (new : List Line)
    × (lines_of ending (bytes ++ more) ≡ open_lines bytes ++ new)
lines_begin Open bytes more e = lines_go_on_lem bytes more
lines_begin Failed bytes more e = lines_go_on_lem bytes more
lines_begin Ended bytes more e = go (frame_fault (bytes ++ more)) refl
  where
    begun : (new : List Line) × (open_lines (bytes ++ more) ≡ open_lines bytes ++ new)
    begun = lines_go_on_lem bytes more

    last : List Line
    last = numbered_from (length (ended_lines (bytes ++ more)) + 1) (as_line (unended_line (bytes ++ more)))

    go : (f : Option FrameFault) → frame_fault (bytes ++ more) ≡ f → (new : List Line)
        × (finished_lines (bytes ++ more) ≡ open_lines bytes ++ new)
    go (Some fault) f = (begun.0, rw f begun.1)
    go None f = (
      begun.0 ++ last,
      rw f (numbered-append 1 (ended_lines (bytes ++ more)) (as_line (unended_line (bytes ++ more)))
          ∙ ap (λ (part : List ℕ). numbered_from 1 (ended_lines part) ++ last) (sym (sound-all (bytes ++ more) f))
          ∙ ap (λ (ls : List Line). ls ++ last) begun.1
          ∙ append_assoc (open_lines bytes) begun.0 last),
    )

-- a frame fault leaves the same stop, however the bytes end
same_stop : (ending : Ending) (bytes more : List ℕ) (fault : FrameFault) → stop_at_end ending more (Some fault)
    ≡ stop_at_end Open bytes (Some fault)
same_stop ending bytes more (lines.LineTooLong number) = refl
same_stop ending bytes more (lines.StreamTooLong number) = refl

same_lines_of : (ending : Ending) (bytes more : List ℕ) (fault : FrameFault) → frame_fault bytes ≡ Some fault
    → lines_of ending (bytes ++ more) ≡ open_lines bytes
same_lines_of Open bytes more fault e = (fault-stays bytes more fault e).same_lines
same_lines_of Failed bytes more fault e = (fault-stays bytes more fault e).same_lines
same_lines_of Ended bytes more fault e = (fault-stays bytes more fault e).same_finished

pub closed_stays_lem : (names : List ProcessNames) (ending : Ending) (bytes more : List ℕ)
    → IsClosed (reading names Open bytes).stop → reading names ending (bytes ++ more) ≡ reading names Open bytes
closed_stays_lem names ending bytes more closed = go (frame_fault bytes) refl
  where
    go : (f : Option FrameFault) → frame_fault bytes ≡ f → reading names ending (bytes ++ more)
        ≡ reading names Open bytes
    go (Some fault) e =
        rw ((fault-stays bytes more fault e).same_fault, same_lines_of ending bytes more fault e, e)
        (ap (λ s. with_end s (reading_of_lines event_limit names (open_lines bytes)))
        (same_stop ending bytes (bytes ++ more) fault))
    go None e =
        let shut : IsClosed (reading_of_lines event_limit names (open_lines bytes)).stop =
        rw (nothing_more (reading_of_lines event_limit names (open_lines bytes)).stop) at (rw e at closed) in
        let begun = lines_begin ending bytes more e in
        ap (λ ls. with_end (stop_at_end ending (bytes ++ more) (frame_fault (bytes ++ more)))
        (reading_of_lines event_limit names ls)) begun.1
        ∙ ap (λ r. with_end (stop_at_end ending (bytes ++ more) (frame_fault (bytes ++ more))) r)
        (lines-same names (open_lines bytes) begun.0 shut)
        ∙ end-same (reading_of_lines event_limit names (open_lines bytes))
        (stop_at_end ending (bytes ++ more) (frame_fault (bytes ++ more))) shut
        ∙ sym (end-same (reading_of_lines event_limit names (open_lines bytes)) (stop_at_end Open bytes
        (frame_fault bytes)) shut)
