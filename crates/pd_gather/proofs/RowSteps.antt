-- How a stream's row goes on: from one read to the next a process stays, and events don't get fewer.
use Rattle.std.proofs.Common.{◌≡◌, ℕ, ◌+◌, ◌≤◌, Bool, true, false, cond, List, [], ◌∷◌, ◌++◌, length, refl, sym, ◌∙◌, ap, subst, inl, inr, length-append, arith}
use Rattle.std.specs.Prelude.{◌≢◌, Option, Some, None, nat_lt, Result, Ok, Err}
use Rattle.std.proofs.lemmas.Bool.Decides.{nat_tests}
use Rattle.def_model.specs.Events.{Event}
use Rattle.def_format.specs.Lines.{Line, FrameFault, as_line, frame_fault, line_count, line_number, numbered_from, unended_line}
use Rattle.def_format.specs.Lines as lines
use Rattle.def_format.specs.Histories.{Row, fresh_row}
use Rattle.def_format.specs.Limits.{event_limit}
use Rattle.def_format.specs.Names.{ProcessNames}
use Rattle.def_format.specs.Records.{RecordFault, Join, LineRecord, Joins, Happens, Ends, record_of}
use Rattle.def_format.specs.Readings.{Ending, Open, Ended, Failed, Stop, NothingMore, EndLine, Fault, InRecord, TooManyEvents, Unended, ReadFailed, Reading, reading, reading_of_lines, lines_of, stop_at_end, stop_or, with_end, StreamState, Fresh, Joined, HasEnded, Faulted, state}
use Rattle.def_format.specs.ReadingLaws.{after_record, process_of, read_on, stopped_by}
use Rattle.def_format.proofs.LineFacts.{lines_go_on_lem}
use Rattle.def_format.proofs.PartFacts.{sound_finishes}
use Rattle.def_format.proofs.ReadingSteps.{from_start, open_is_sound, reading_goes_on, reading_ends, reading_fails}
use Rattle.pd_gather.specs.Rows.{GoesOnTo, HasPosted, IsLater, IsStreamRow, row, row_of_reading}

abbrev reading_with : Option (ℕ × ℕ) → List Event → Stop → Reading
reading_with joined events stop = record { joined = joined; events = events; stop = stop }

abbrev pub HasStreamRow : Reading → Type 0
HasStreamRow r = IsStreamRow (process_of r.joined) (length r.events) (state r)

-- a reading after one that had joined so, with these events
record IsAfter (joined : Option (ℕ × ℕ)) (events : List Event) (new : Reading) : Type 0 where
  row : HasStreamRow new
  kept : (j : ℕ × ℕ) → joined ≡ Some j → new.joined ≡ Some j
  grows : length events ≤ length new.events

-- ---- line by line

-- the readings of later lines come after any reading
abbrev Later : List ProcessNames → List Line → Type 0
Later names ls = (joined : Option (ℕ × ℕ)) (events : List Event) (stop : Stop)
    → HasStreamRow (reading_with joined events stop)
    → IsAfter joined events (read_on event_limit names (reading_with joined events stop) ls)

first_joins : (names : List ProcessNames) (ls : List Line) → Later names ls → (events : List Event) (j : ℕ × ℕ)
    → length events ≡ 0 → IsAfter None events (read_on event_limit names (reading_with (Some j) events NothingMore) ls)
first_joins names ls later events j none =
    let after = later (Some j) events NothingMore (omega (arith, none)) in
    record { row = after.row; kept = λ k e. cc; grows = after.grows }

before_join : (names : List ProcessNames) (ls : List Line) → Later names ls → (events : List Event) → length events ≡ 0
    → (number : ℕ) (r : Result LineRecord RecordFault) → IsAfter None events
    (read_on event_limit names (after_record event_limit None (reading_with None events NothingMore) number r) ls)
before_join names ls later events none number (Ok (Joins process)) =
    first_joins names ls later events (process, number) none
before_join names ls later events none number (Ok (Happens event)) =
    later None events (Fault number (InRecord Join)) none
before_join names ls later events none number (Ok Ends) = later None events (Fault number (InRecord Join)) none
before_join names ls later events none number (Err fault) = later None events (Fault number (InRecord fault)) none

one_event : (names : List ProcessNames) (ls : List Line) → Later names ls → (events : List Event) (j : ℕ × ℕ)
    (number : ℕ) (event : Event) → length events ≤ event_limit → (b : Bool) → nat_lt (length events) event_limit ≡ b
    → IsAfter (Some j) events (read_on event_limit names (cond b (reading_with (Some j)
    (events ++ event ∷ []) NothingMore)
    (reading_with (Some j) events (Fault number TooManyEvents))) ls)
one_event names ls later events j number event few true e =
    let long : length (events ++ event ∷ []) ≡ length events + 1 = length-append events (event ∷ []) in
    let after = later (Some j) (events ++ event ∷ []) NothingMore (grind (arith, nat_tests, long, e)) in
    let grows = after.grows in
    record { row = after.row; kept = after.kept; grows = omega (arith, long, grows) }
one_event names ls later events j number event few false e =
    later (Some j) events (Fault number TooManyEvents) few

after_join : (names : List ProcessNames) (ls : List Line) → Later names ls → (events : List Event) (j : ℕ × ℕ)
    → length events ≤ event_limit → (number : ℕ) (r : Result LineRecord RecordFault) → IsAfter (Some j) events
    (read_on event_limit names (after_record event_limit (Some j) (reading_with
    (Some j) events NothingMore) number r) ls)
after_join names ls later events j few number (Ok (Joins process)) =
    later (Some j) events (Fault number (InRecord Join)) few
after_join names ls later events j few number (Ok (Happens event)) =
    one_event names ls later events j number event few (nat_lt (length events) event_limit) refl
after_join names ls later events j few number (Ok Ends) = later (Some j) events EndLine few
after_join names ls later events j few number (Err fault) = later (Some j) events (Fault number (InRecord fault)) few

lines_later : (names : List ProcessNames) (ls : List Line) → Later names ls
lines_later names [] joined events stop has =
    record { row = has; kept = λ j e. e; grows = omega arith }
lines_later names (l ∷ ls) joined events EndLine has = lines_later names ls joined events EndLine has
lines_later names (l ∷ ls) joined events (Fault number kind) has =
    lines_later names ls joined events (Fault number kind) has
lines_later names (l ∷ ls) None events NothingMore has =
    before_join names ls (lines_later names ls) events has l.number (record_of names None l.bytes)
lines_later names (l ∷ ls) (Some j) events NothingMore has =
    after_join names ls (lines_later names ls) events j has l.number (record_of names (Some j.0) l.bytes)

-- ---- ends

ends_later : (stop end : Stop) (joined : Option (ℕ × ℕ)) (events : List Event) → end ≢ EndLine
    → HasStreamRow (reading_with joined events stop) → HasStreamRow (reading_with joined events (stop_or stop end))
ends_later NothingMore NothingMore joined events other has = has
ends_later NothingMore EndLine joined events other has = absurd (other refl)
ends_later NothingMore (Fault number kind) None events other has = has
ends_later NothingMore (Fault number kind) (Some j) events other has = has
ends_later EndLine end joined events other has = has
ends_later (Fault number kind) end joined events other has = has

no_end_line : (ending : Ending) (bytes : List ℕ) (fault : Option FrameFault) → stop_at_end ending bytes fault ≢ EndLine
no_end_line ending bytes (Some (lines.LineTooLong number)) e = cc
no_end_line ending bytes (Some (lines.StreamTooLong number)) e = cc
no_end_line Open bytes None e = cc
no_end_line Ended bytes None e = cc
no_end_line Failed bytes None e = cc

-- each reading has the row of a stream
reading_has_row : (names : List ProcessNames) (ending : Ending) (bytes : List ℕ)
    → HasStreamRow (reading names ending bytes)
reading_has_row names ending bytes =
    let r : Reading = reading_of_lines event_limit names (lines_of ending bytes) in
    let has : HasStreamRow r =
    subst HasStreamRow (from_start event_limit names (lines_of ending bytes))
    (lines_later names (lines_of ending bytes) None [] NothingMore refl).row in
    ends_later r.stop (stop_at_end ending bytes (frame_fault bytes)) r.joined r.events
    (no_end_line ending bytes (frame_fault bytes)) has

-- ---- from one read to the next

goes_on_to : (joined : Option (ℕ × ℕ)) (events : List Event) (new : Reading)
    → HasStreamRow (reading_with joined events NothingMore) → IsAfter joined events new
    → GoesOnTo (row_of_reading (reading_with joined events NothingMore)) (row_of_reading new)
goes_on_to None events new has after =
    record { old_row = has; new_row = after.row; later = ap (λ (n : ℕ). row None n Fresh) has }
goes_on_to (Some j) events new has after = record {
  old_row = has;
  new_row = after.row;
  later = (sym (ap process_of (after.kept j refl)), after.grows);
}

lines_go_on_to : (names : List ProcessNames) (r : Reading) (ls : List Line) (end : Stop) → r.stop ≡ NothingMore
    → HasStreamRow r → end ≢ EndLine
    → GoesOnTo (row_of_reading r) (row_of_reading (with_end end (read_on event_limit names r ls)))
lines_go_on_to names r ls end open' has other =
    let same : reading_with r.joined r.events NothingMore ≡ r =
    ap (λ (stop : Stop). reading_with r.joined r.events stop) (sym open') in
    let here : HasStreamRow (reading_with r.joined r.events NothingMore) = subst HasStreamRow (sym same) has in
    let after = lines_later names ls r.joined r.events NothingMore here in
    let new : Reading = read_on event_limit names (reading_with r.joined r.events NothingMore) ls in
    subst (λ (x : Reading). GoesOnTo (row_of_reading x) (row_of_reading (with_end end
    (read_on event_limit names x ls)))) same
    (goes_on_to r.joined r.events (with_end end new) here
    (record {
      row = ends_later new.stop end new.joined new.events other after.row;
      kept = after.kept;
      grows = after.grows;
    }))

pub piece_goes_on : (names : List ProcessNames) (bytes piece : List ℕ) → (reading names Open bytes).stop ≡ NothingMore
    → GoesOnTo (row_of_reading (reading names Open bytes)) (row_of_reading (reading names Open (bytes ++ piece)))
piece_goes_on names bytes piece open' =
    let new = lines_go_on_lem bytes piece in
    let fault = frame_fault (bytes ++ piece) in
    subst (λ (r : Reading). GoesOnTo (row_of_reading (reading names Open bytes)) (row_of_reading r))
    (sym (reading_goes_on names bytes piece new.0 fault open' (record { new_lines = new.1; same_fault = refl })))
    (lines_go_on_to names (reading names Open bytes) new.0 (stop_at_end Open (bytes ++ piece) fault) open'
    (reading_has_row names Open bytes) (no_end_line Open (bytes ++ piece) fault))

pub end_goes_on : (names : List ProcessNames) (bytes : List ℕ) → (reading names Open bytes).stop ≡ NothingMore
    → GoesOnTo (row_of_reading (reading names Open bytes)) (row_of_reading (reading names Ended bytes))
end_goes_on names bytes open' =
    let new : List Line = numbered_from (line_number bytes) (as_line (unended_line bytes)) in
    let last = (sound_finishes bytes (open_is_sound names bytes open')).lines in
    subst (λ (r : Reading). GoesOnTo (row_of_reading (reading names Open bytes)) (row_of_reading r))
    (sym (reading_ends names bytes new open' last))
    (lines_go_on_to names (reading names Open bytes) new (Fault (line_count bytes + 1) Unended) open'
    (reading_has_row names Open bytes) (λ (e : Fault (line_count bytes + 1) Unended ≡ EndLine). cc))

pub failure_goes_on : (names : List ProcessNames) (bytes : List ℕ) → (reading names Open bytes).stop ≡ NothingMore
    → GoesOnTo (row_of_reading (reading names Open bytes)) (row_of_reading (reading names Failed bytes))
failure_goes_on names bytes open' =
    subst (λ (r : Reading). GoesOnTo (row_of_reading (reading names Open bytes)) (row_of_reading r))
    (ap (λ (stop : Stop). stopped_by (reading names Open bytes) (stop_or stop (Fault (line_number bytes) ReadFailed)))
    open' ∙ sym (reading_fails names bytes open'))
    (lines_go_on_to names (reading names Open bytes) [] (Fault (line_number bytes) ReadFailed) open'
    (reading_has_row names Open bytes) (λ (e : Fault (line_number bytes) ReadFailed ≡ EndLine). cc))

-- ---- posts on the way

-- an open row is one that posts lead through from a fresh row to each that it goes on to
pub open_posted : (old due : Row) → GoesOnTo old due → HasPosted fresh_row due old
open_posted old due goes = go old.process old.events old.state goes.old_row goes.later
  where
    go : (process : Option ℕ) (events : ℕ) (s : StreamState) → IsStreamRow process events s
        → IsLater s (row process events s) due → HasPosted fresh_row due (row process events s)
    go process events Fresh has later = inl later
    go None events Joined has later = absurd has
    go (Some process) events Joined has later =
        inr (process, sym later.0, record { joined = refl; at_least = omega arith; at_most = later.1 })
    go process events HasEnded has later = absurd later
    go process events Faulted has later = absurd later

-- what posts lead through from an open row they lead through from a fresh one
pub posted_from_start : (old due new : Row) → GoesOnTo old due → HasPosted old due new → HasPosted fresh_row due new
posted_from_start old due new goes (inl same) = subst (HasPosted fresh_row due) (sym same) (open_posted old due goes)
posted_from_start old due new goes (inr (process, joined, some)) =
    inr (process, joined, record { joined = some.joined; at_least = omega arith; at_most = some.at_most })
