-- A stream within the limits of a session.
use Rattle.std.proofs.Common.{◌≡◌, ℕ, suc, ◌<◌, ◌≤◌, Bool, true, false, cond, List, [], ◌∷◌, ◌++◌, length, refl, ◌∙◌, ap, append_assoc, length-append, arith}
use Rattle.std.specs.Prelude.{◌==◌, nat_le, nat_lt, Option, Some, None, Result, Ok, Err}
use Rattle.std.proofs.lemmas.Bool.{eqb-true}
use Rattle.std.proofs.lemmas.Bool.Decides.{nat_tests}
use Rattle.std.proofs.lemmas.List.{append-nil}
use Rattle.def_model.specs.Events.{Event}
use Rattle.def_format.specs.Limits.{event_limit, line_byte_limit}
use Rattle.def_format.specs.Lines.{FrameFault, Line, all_lines, fault_after, fault_of_byte, first_fault_of, frame_fault, has_line_feed, line_feed, numbered_from, unended_line}
use Rattle.def_format.specs.Names.{ProcessNames}
use Rattle.def_format.specs.Readings.{Course, Ended, Fault, Reading, Stop, TooManyEvents, course_from, course_of, reading_from, reading_of_lines, stop_at_end, stop_or, stopped, with_end, with_first}
use Rattle.def_format.specs.Records.{Ends, Happens, Joins, LineRecord, RecordFault, record_of}
use Rattle.def_format.proofs.LineFacts.{has_feed-append, no_feed-unended, unended-append, unended-no_feed}
use Rattle.def_recordings.specs.Laws.{WithinLimits}
use Rattle.def_recordings.specs.Recordings.{lines_before_long, long_line, recorded_event_limit}
use Rattle.def_recordings.proofs.FirstLines.{first_line, one_line, unended}

-- ---- lines

-- none of the lines is too long
record AreShort (lines : List (List ℕ)) : Type 0 where
  all : lines_before_long lines ≡ lines
  none : (n : ℕ) → long_line n lines ≡ None

within : (n : ℕ) → n ≤ line_byte_limit → nat_lt line_byte_limit n ≡ false
within n h = grind (arith, nat_tests)

short_first : (first : List ℕ) (others : List (List ℕ)) → length first ≤ line_byte_limit → AreShort others
    → AreShort (first ∷ others)
short_first first others h s = record {
  all = rw (within (length first) h) (ap (λ (ls : List (List ℕ)). first ∷ ls) s.all);
  none = λ n. rw (within (length first) h) (s.none (suc n));
}

no_line : AreShort []
no_line = record { all = refl; none = λ n. refl }

-- a rest that is sound is a line that isn't too long
short_rest : (rest : List ℕ) → has_line_feed rest ≡ false → length rest ≤ line_byte_limit → AreShort (all_lines rest)
short_rest [] none h = no_line
short_rest (x ∷ rest) none h =
    rw (one_line (x ∷ rest) (omega arith) none) (short_first (x ∷ rest) [] h no_line)

no_first_fault : (first later : Option FrameFault) → first_fault_of first later ≡ None
    → (first ≡ None) × (later ≡ None)
no_first_fault None later e = (refl, e)
no_first_fault (Some fault) later e = absurd (cc)

-- a byte that isn't an LF and has no fault has room in its line
has_room : (before : List ℕ) (byte : ℕ) → (byte == line_feed) ≡ false → fault_of_byte before byte ≡ None
    → length (unended_line before) < line_byte_limit
has_room before byte other none = go (nat_le line_byte_limit (length (unended_line before))) refl
  where
    go : (b : Bool) → nat_le line_byte_limit (length (unended_line before)) ≡ b
        → length (unended_line before) < line_byte_limit
    go true e = absurd (let bad = rw (other, e) at none in cc)
    go false e = grind (arith, nat_tests, e)

-- the lines of what is left after these bytes, with the rest before it
short_lines : (before bytes : List ℕ) → length (unended_line before) ≤ line_byte_limit
    → fault_after before bytes ≡ None → AreShort (all_lines (unended_line before ++ bytes))
short_lines before [] h none =
    rw (append-nil (unended_line before)) (short_rest (unended_line before) (no_feed-unended before) h)
short_lines before (x ∷ bytes) h none =
    go (x == line_feed) refl (short_lines (before ++ x ∷ []) bytes)
  where
    parts : (fault_of_byte before x ≡ None) × (fault_after (before ++ x ∷ []) bytes ≡ None)
    parts = no_first_fault (fault_of_byte before x) (fault_after (before ++ x ∷ []) bytes) none

    same_rest : unended_line (before ++ x ∷ []) ≡ unended_line (unended_line before ++ x ∷ [])
    same_rest = unended-append before (x ∷ [])

    go : (b : Bool) → (x == line_feed) ≡ b
        → (length (unended_line (before ++ x ∷ [])) ≤ line_byte_limit → fault_after (before ++ x ∷ []) bytes ≡ None
        → AreShort (all_lines (unended_line (before ++ x ∷ []) ++ bytes)))
        → AreShort (all_lines (unended_line before ++ x ∷ bytes))
    go true e ih =
        let feed : x ≡ line_feed = eqb-true x line_feed e in
        let new_line : unended_line (before ++ x ∷ []) ≡ [] =
        same_rest ∙ (rw feed (unended (unended_line before) [])) in
        let later : AreShort (all_lines bytes) = rw new_line at (ih (rw new_line (omega arith)) parts.1) in
        rw (
          feed,
          first_line (unended_line before ++ line_feed ∷ bytes) (unended_line before) bytes refl
              (no_feed-unended before),
        )
        (short_first (unended_line before) (all_lines bytes) h later)
    go false e ih =
        let none_yet : has_line_feed (unended_line before ++ x ∷ []) ≡ false =
        has_feed-append (unended_line before) (x ∷ []) ∙ (rw (no_feed-unended before, e) refl) in
        let longer : unended_line (before ++ x ∷ []) ≡ unended_line before ++ x ∷ [] =
        same_rest ∙ unended-no_feed (unended_line before ++ x ∷ []) none_yet in
        let room : length (unended_line before ++ x ∷ []) ≤ line_byte_limit =
        omega (arith, length-append (unended_line before) (x ∷ []), has_room before x e parts.0) in
        let later : AreShort (all_lines ((unended_line before ++ x ∷ []) ++ bytes)) =
        rw longer at (ih (rw longer room) parts.1) in
        rw (append_assoc (unended_line before) (x ∷ []) bytes) at later

all_short : (bytes : List ℕ) → frame_fault bytes ≡ None → AreShort (all_lines bytes)
all_short bytes none = short_lines [] bytes (omega arith) none

-- ---- events

abbrev IsManyStop : Stop → Type 0
IsManyStop stop = (line : ℕ) × (stop ≡ Fault line TooManyEvents)

same_course : (names : List ProcessNames) (process before : ℕ) (ls : List Line)
    → (IsManyStop (course_of event_limit names process before ls).stop → ⊥)
    → course_of recorded_event_limit names process before ls ≡ course_of event_limit names process before ls
same_course names process before [] few = refl
same_course names process before (l ∷ ls) few =
    go (record_of names (Some process) l.bytes) few (same_course names process (suc before) ls)
  where
    later : Course
    later = course_of event_limit names process (suc before) ls

    more : Course
    more = course_of recorded_event_limit names process (suc before) ls

    room : (n : ℕ) → nat_lt n event_limit ≡ true → nat_lt n recorded_event_limit ≡ true
    room n h = grind (arith, nat_tests, h)

    happens : (event : Event) (b : Bool) → nat_lt before event_limit ≡ b
        → (IsManyStop (cond b (with_first event later) (stopped (Fault l.number TooManyEvents))).stop → ⊥)
        → ((IsManyStop later.stop → ⊥) → more ≡ later)
        → cond (nat_lt before recorded_event_limit) (with_first event more) (stopped (Fault l.number TooManyEvents))
        ≡ cond b (with_first event later) (stopped (Fault l.number TooManyEvents))
    happens event true e few ih = rw (room before e) (ap (λ (c : Course). with_first event c) (ih few))
    happens event false e few ih = absurd (few (l.number, refl))

    go : (r : Result LineRecord RecordFault)
        → (IsManyStop (course_from event_limit before l.number r later).stop → ⊥)
        → ((IsManyStop later.stop → ⊥) → more ≡ later)
        → course_from recorded_event_limit before l.number r more ≡ course_from event_limit before l.number r later
    go (Ok (Joins p)) few ih = refl
    go (Ok (Happens event)) few ih = happens event (nat_lt before event_limit) refl few ih
    go (Ok Ends) few ih = refl
    go (Err fault) few ih = refl

same_reading : (names : List ProcessNames) (ls : List Line)
    → (IsManyStop (reading_of_lines event_limit names ls).stop → ⊥)
    → reading_of_lines recorded_event_limit names ls ≡ reading_of_lines event_limit names ls
same_reading names [] few = refl
same_reading names (l ∷ ls) few = go (record_of names None l.bytes) few
  where
    go : (r : Result LineRecord RecordFault)
        → (IsManyStop (reading_from l.number r (λ process. course_of event_limit names process 0 ls)).stop → ⊥)
        → reading_from l.number r (λ process. course_of recorded_event_limit names process 0 ls)
        ≡ reading_from l.number r (λ process. course_of event_limit names process 0 ls)
    go (Ok (Joins p)) few =
        ap (λ (c : Course). record { joined = Some (p, l.number); events = c.events; stop = c.stop })
        (same_course names p 0 ls few)
    go (Ok (Happens event)) few = refl
    go (Ok Ends) few = refl
    go (Err fault) few = refl

-- ---- the law

first_stop : (stop later : Stop) → IsManyStop stop → IsManyStop (stop_or stop later)
first_stop stop later (line, e) = (line, rw e refl)

pub within_limits_lem : WithinLimits
within_limits_lem names bytes sound few =
    let lines : List Line = numbered_from 1 (all_lines bytes) in
    let short : AreShort (all_lines bytes) = all_short bytes sound in
    rw (sound, short.none 1, short.all)
    (ap (λ (r : Reading). with_end (stop_at_end Ended bytes None) r) (same_reading names lines (λ many.
    let found = first_stop (reading_of_lines event_limit names lines).stop (stop_at_end Ended bytes None) many in
    (rw sound at few) found.0 found.1)))
