-- Each trace that a stream gives fits the session's names.
use Rattle.std.proofs.Common.{◌≡◌, ℕ, suc, ◌+◌, ◌<◌, ◌≤◌, Bool, true, false, cond, List, [], ◌∷◌, ◌++◌, length, refl, sym, ◌∙◌, ap, subst, length-append, ℤ, arith}
use Rattle.std.specs.Prelude.{Option, Some, None, nat_lt, Result, Ok, Err, All, option_map, option_and_then}
use Rattle.std.specs.List.{cons_option}
use Rattle.std.proofs.lemmas.Bool.Decides.{nat_tests}
use Rattle.std.proofs.lemmas.List.Elements.{All-push, All-cons}
use Rattle.std.proofs.lemmas.List.Quantifiers.{position-Some}
use Rattle.serde_json.specs.Data.{Data, Members}
use Rattle.serde_json.specs.Find.{get_member}
use Rattle.std.specs.Str.{bytes_eq}
use Rattle.def_model.specs.Events.{Event, Linked, Kind}
use Rattle.def_format.specs.Lists.{unless}
use Rattle.def_format.specs.Lines.{Line, frame_fault}
use Rattle.def_format.specs.Names.{ProcessNames, process_named, vars_of}
use Rattle.def_format.specs.Records.{RecordFault, Join, LineRecord, Joins, Happens, Ends, Statement, SaysJoin, SaysEnd, SaysEvent, json_value, whole_number, statement_of, sets_from, join_record, record_of_shape, record_of_value, record_of}
use Rattle.def_format.specs.Readings.{Ending, Stop, NothingMore, EndLine, Fault, InRecord, TooManyEvents, Reading, not_joined, reading_of_lines, lines_of, stop_at_end, with_end, reading, result_by_stop, result_of, Trace}
use Rattle.def_format.specs.Limits.{event_limit}
use Rattle.def_format.specs.ReadingLaws.{stopped_by, after_record, process_of, read_line, unless_stopped, read_on, FitsProcess, FitsSession, FitsWithin, LinesFit}
use Rattle.def_format.proofs.ReadingSteps.{from_start}

-- ---- sets

abbrev Ascends : ℕ × ℤ → ℕ × ℤ → Type 0
Ascends old new = old.0 < new.0

sets_above : (v : ℕ) (vars : List (List ℕ)) (settings : Members) (x : ℕ × ℤ) → x.0 < v
    → Linked Ascends (x ∷ sets_from v vars settings)
sets_above v [] settings x h = tt
sets_above v (var ∷ others) settings x h =
    go (option_and_then whole_number (get_member var settings)) (sets_above (suc v) others settings x (omega arith))
    (λ value. sets_above (suc v) others settings (v, value) (omega arith))
  where
    go : (o : Option ℤ) → Linked Ascends (x ∷ sets_from (suc v) others settings)
        → ((value : ℤ) → Linked Ascends ((v, value) ∷ sets_from (suc v) others settings))
        → Linked Ascends (x ∷ cons_option (option_map (λ value. (v, value)) o) (sets_from (suc v) others settings))
    go None ih with_value = ih
    go (Some value) ih with_value = (h, with_value value)

sets_ascend : (v : ℕ) (vars : List (List ℕ)) (settings : Members) → Linked Ascends (sets_from v vars settings)
sets_ascend v [] settings = tt
sets_ascend v (var ∷ others) settings =
    go (option_and_then whole_number (get_member var settings)) (sets_ascend (suc v) others settings)
  where
    go : (o : Option ℤ) → Linked Ascends (sets_from (suc v) others settings)
        → Linked Ascends (cons_option (option_map (λ value. (v, value)) o) (sets_from (suc v) others settings))
    go None ih = ih
    go (Some value) ih = sets_above (suc v) others settings (v, value) (omega arith)

sets_known : (v n : ℕ) (vars : List (List ℕ)) (settings : Members) → v + length vars ≤ n
    → All (λ (set : ℕ × ℤ). set.0 < n) (sets_from v vars settings)
sets_known v n [] settings h = λ k d below. absurd (omega arith)
sets_known v n (var ∷ others) settings h =
    go (option_and_then whole_number (get_member var settings)) (sets_known (suc v) n others settings (omega arith))
  where
    go : (o : Option ℤ) → All (λ (set : ℕ × ℤ). set.0 < n) (sets_from (suc v) others settings)
        → All (λ (set : ℕ × ℤ). set.0 < n) (cons_option (option_map (λ value. (v, value)) o)
        (sets_from (suc v) others settings))
    go None ih = ih
    go (Some value) ih =
        All-cons (λ (set : ℕ × ℤ). set.0 < n) (v, value) (sets_from (suc v) others settings) (omega arith) ih

-- ---- records

join_is_known : (names : List ProcessNames) (name : List ℕ) (o : Option ℕ) (p : ℕ) → process_named names name ≡ o
    → join_record o ≡ Ok (Joins p) → p < length names
join_is_known names name None p e h = absurd (cc)
join_is_known names name (Some q) p e h =
    let same : q ≡ p = cc in
    let found =
    (position-Some (λ (process : ProcessNames). bytes_eq process.name name) names q (record {
      name = [];
      vars =
          [];
    }) e).0 in
    omega (arith, found, same)

shape_joins : (names : List ProcessNames) (s : Option Statement) (p : ℕ) → record_of_shape names None s ≡ Ok (Joins p)
    → p < length names
shape_joins names None p h = absurd (cc)
shape_joins names (Some (SaysJoin name)) p h = join_is_known names name (process_named names name) p refl h
shape_joins names (Some SaysEnd) p h = absurd (cc)
shape_joins names (Some (SaysEvent kind settings)) p h = absurd (cc)

value_joins : (names : List ProcessNames) (v : Option Data) (p : ℕ) → record_of_value names None v ≡ Ok (Joins p)
    → p < length names
value_joins names None p h = absurd (cc)
value_joins names (Some value) p h = shape_joins names (statement_of value) p h

joins_known : (names : List ProcessNames) (bytes : List ℕ) (p : ℕ) → record_of names None bytes ≡ Ok (Joins p)
    → p < length names
unfolding record_of
joins_known names bytes p h = value_joins names (json_value bytes) p h

event_fits : (names : List ProcessNames) (q : ℕ) (kind : Kind) (settings : Members) (o : Option RecordFault)
    (event : Event) → unless o (Happens (record { kind = kind; sets = sets_from 0 (vars_of names q) settings }))
    ≡ Ok (Happens event) → FitsProcess names q event
event_fits names q kind settings (Some fault) event h = absurd (cc)
event_fits names q kind settings None event h =
    let same : record { kind = kind; sets = sets_from 0 (vars_of names q) settings } ≡ event = cc in
    subst (λ (e : Event). FitsProcess names q e) same (record {
      ascend = sets_ascend 0 (vars_of names q) settings;
      known = sets_known 0 (length (vars_of names q)) (vars_of names q) settings (omega arith);
    })

shape_happens : (names : List ProcessNames) (q : ℕ) (s : Option Statement) (event : Event)
    → record_of_shape names (Some q) s ≡ Ok (Happens event) → FitsProcess names q event
shape_happens names q None event h = absurd (cc)
shape_happens names q (Some (SaysJoin name)) event h = absurd (cc)
shape_happens names q (Some SaysEnd) event h = absurd (cc)
shape_happens names q (Some (SaysEvent kind settings)) event h = event_fits names q kind settings _ event h

value_happens : (names : List ProcessNames) (q : ℕ) (v : Option Data) (event : Event) → record_of_value names (Some q) v
    ≡ Ok (Happens event) → FitsProcess names q event
value_happens names q None event h = absurd (cc)
value_happens names q (Some value) event h = shape_happens names q (statement_of value) event h

events_fit_record : (names : List ProcessNames) (q : ℕ) (bytes : List ℕ) (event : Event)
    → record_of names (Some q) bytes ≡ Ok (Happens event) → FitsProcess names q event
unfolding record_of
events_fit_record names q bytes event h = value_happens names q (json_value bytes) event h

-- ---- readings

same_first : (a b : ℕ × ℕ) → Some a ≡ Some b → a.0 ≡ b.0
same_first a b e = let same : a ≡ b = cc in ap (λ (x : ℕ × ℕ). x.0) same

record FitsReading (limit : ℕ) (names : List ProcessNames) (r : Reading) : Type 0 where
  process_known : (p n : ℕ) → r.joined ≡ Some (p, n) → p < length names
  few : length r.events ≤ limit
  fit : (p n : ℕ) → r.joined ≡ Some (p, n) → All (FitsProcess names p) r.events
  none : r.joined ≡ None → r.events ≡ []

stopped_fits : (limit : ℕ) (names : List ProcessNames) (r : Reading) (stop : Stop) → FitsReading limit names r
    → FitsReading limit names (stopped_by r stop)
stopped_fits limit names r stop f = record { process_known = f.process_known; few = f.few; fit = f.fit; none = f.none }

All-nil : {A : Type 0} (P : A → Type 0) (xs : List A) → xs ≡ [] → All P xs
All-nil P [] e = λ k d below. absurd (omega arith)
All-nil P (x ∷ xs) e = absurd (cc)

line_fits : (limit : ℕ) (names : List ProcessNames) (r : Reading) (line : Line) → FitsReading limit names r
    → FitsReading limit names (read_line limit names r line)
line_fits limit names r line f = go r.joined refl (record_of names (process_of r.joined) line.bytes) refl
  where
    joins : (p : ℕ) → r.joined ≡ None → record_of names (process_of r.joined) line.bytes ≡ Ok (Joins p)
        → FitsReading limit names (record { joined = Some (p, line.number); events = r.events; stop = NothingMore })
    joins p e h = record {
      process_known = λ q n s. let same : p ≡ q = same_first (p, line.number) (q, n) s in let below : p < length names =
          joins_known names line.bytes p (rw e at h) in omega (arith, same, below);
      few = f.few;
      fit = λ q n s. All-nil (FitsProcess names q) r.events (f.none e);
      none = λ no. absurd (cc);
    }

    happens : (q n : ℕ) (event : Event) → r.joined ≡ Some (q, n) → record_of names (process_of r.joined) line.bytes
        ≡ Ok (Happens event) → (b : Bool) → nat_lt (length r.events) limit ≡ b
        → FitsReading limit names (cond b
        (record { joined = r.joined; events = r.events ++ event ∷ []; stop = NothingMore })
        (stopped_by r (Fault line.number TooManyEvents)))
    happens q n event e h false t = stopped_fits limit names r (Fault line.number TooManyEvents) f
    happens q n event e h true t =
        let room : length r.events < limit = grind (arith, nat_tests, t) in
        let count = length-append r.events (event ∷ []) in
        let one : FitsProcess names q event = events_fit_record names q line.bytes event (rw e at h) in
        record {
          process_known = f.process_known;
          few = omega (arith, room, count);
          fit = λ p m s. let same : q ≡ p = same_first (q, n) (p, m) (sym e ∙ s) in
              All-push (FitsProcess names p) r.events event (f.fit p m s)
              (subst (λ (x : ℕ). FitsProcess names x event) same one);
          none = λ no. absurd (let both = sym e ∙ no in cc both);
        }

    go : (j : Option (ℕ × ℕ)) → r.joined ≡ j → (o : Result LineRecord RecordFault)
        → record_of names (process_of r.joined) line.bytes ≡ o
        → FitsReading limit names (after_record limit j r line.number o)
    go None e (Ok (Joins p)) h = joins p e h
    go None e (Ok (Happens event)) h = stopped_fits limit names r (Fault line.number (InRecord Join)) f
    go None e (Ok Ends) h = stopped_fits limit names r (Fault line.number (InRecord Join)) f
    go None e (Err fault) h = stopped_fits limit names r (Fault line.number (InRecord fault)) f
    go (Some j) e (Ok (Joins p)) h = stopped_fits limit names r (Fault line.number (InRecord Join)) f
    go (Some j) e (Ok (Happens event)) h = happens j.0 j.1 event e h (nat_lt (length r.events) limit) refl
    go (Some j) e (Ok Ends) h = stopped_fits limit names r EndLine f
    go (Some j) e (Err fault) h = stopped_fits limit names r (Fault line.number (InRecord fault)) f

lines_fit : (limit : ℕ) (names : List ProcessNames) (r : Reading) (ls : List Line) → FitsReading limit names r
    → FitsReading limit names (read_on limit names r ls)
lines_fit limit names r [] f = f
lines_fit limit names r (line ∷ later) f =
    lines_fit limit names (unless_stopped r.stop r (read_line limit names r line)) later (go r.stop)
  where
    go : (s : Stop) → FitsReading limit names (unless_stopped s r (read_line limit names r line))
    go NothingMore = line_fits limit names r line f
    go EndLine = f
    go (Fault number kind) = f

started : (limit : ℕ) (names : List ProcessNames) → FitsReading limit names (not_joined NothingMore)
started limit names =
    record { process_known = λ p n e. absurd (cc); few = omega arith; fit = λ p n e. absurd (cc); none = λ _. refl }

read_fits : (limit : ℕ) (names : List ProcessNames) (lines : List Line) (stop : Stop)
    → FitsReading limit names (with_end stop (reading_of_lines limit names lines))
read_fits limit names lines stop =
    let read : FitsReading limit names (reading_of_lines limit names lines) =
    subst (λ (r : Reading). FitsReading limit names r) (from_start limit names lines)
    (lines_fit limit names (not_joined NothingMore) lines (started limit names)) in
    stopped_fits limit names (reading_of_lines limit names lines) _ read

outcome_fits : (limit : ℕ) (names : List ProcessNames) (r : Reading) → FitsReading limit names r
    → (stop : Stop) (joined : Option (ℕ × ℕ)) (trace : Trace) → r.joined ≡ joined → result_by_stop stop joined r.events
    ≡ Some (Ok trace) → FitsWithin limit names trace
outcome_fits limit names r f (Fault number kind) joined trace e h = absurd (cc)
outcome_fits limit names r f NothingMore joined trace e h = absurd (cc)
outcome_fits limit names r f EndLine None trace e h = absurd (cc)
outcome_fits limit names r f EndLine (Some (p, n)) trace e h =
    let same : record { process = p; join_line = n; events = r.events } ≡ trace = cc in
    subst (λ (t : Trace). FitsWithin limit names t) same (record {
      process_known = f.process_known p n e;
      few_events =
          f.few;
      events_fit = f.fit p n e;
    })

pub lines_fit_within : LinesFit
lines_fit_within limit names lines stop trace h =
    let r : Reading = with_end stop (reading_of_lines limit names lines) in
    outcome_fits limit names r (read_fits limit names lines stop) r.stop r.joined trace refl h

pub traces_fit_lem : (names : List ProcessNames) (ending : Ending) (bytes : List ℕ) (trace : Trace)
    → result_of (reading names ending bytes) ≡ Some (Ok trace) → FitsSession names trace
traces_fit_lem names ending bytes trace h =
    lines_fit_within event_limit names (lines_of ending bytes) (stop_at_end ending bytes (frame_fault bytes)) trace h
