-- What one step more does to a history, to its legality and to its rows; and that the test of legal histories is exact.
use Rattle.std.proofs.Common.{◌≡◌, ◌≢◌, ℕ, zero, suc, ◌+◌, ◌<◌, ◌≤◌, inl, inr, Bool, true, false, ◌&&◌, eqb, ltb, cond, List, [], ◌∷◌, ◌++◌, length, get_or, set, sym, refl, ap, ◌∙◌, subst, arith, rules, eq-eqb, ne_eqb}
use Rattle.std.proofs.lemmas.Bool.Decides.{nat_tests}
use Rattle.std.proofs.lemmas.List.Elements.{All-push}
use Rattle.std.specs.Prelude.{Some, None, Option, slice_get}
use Rattle.def_format.specs.Limits.{event_limit}
use Rattle.def_format.specs.Readings.{HasEnded, Faulted}
use Rattle.def_format.specs.Histories.{Step, StepJoin, StepEvent, StepEnd, StepFault, Post, steps_of, event_steps, IsLast, IsRun, IsLegal, Row, fresh_row, allows, row_after, row_after_all, row_of, rows_from}
use Rattle.def_format.specs.HistoryLaws.{is_rest, is_run, PassesAsLegal, RunsAreDecided, LegalIsDecided, joined_row, RowsAreRead, EventsNeverFall}
use mathlib.Core.Logic.{dite}
use native.Mathlib.Decide.{ℕ_discrete}

-- ---- one step more

after_all_push : (row : Row) (steps : List Step) (s : Step)
    → row_after_all row (steps ++ s ∷ []) ≡ row_after (row_after_all row steps) s
after_all_push row [] s = refl
after_all_push row (x ∷ xs) s = after_all_push (row_after row x) xs s

grow : (b : Bool) (x s : Step) (l m : List Step) → m ≡ l ++ s ∷ []
    → cond b (x ∷ m) m ≡ cond b (x ∷ l) l ++ s ∷ []
grow true x s l m e = ap (λ (k : List Step). x ∷ k) e
grow false x s l m e = e

steps_here : (stream : ℕ) (h : List Post) (e : Post) → e.stream ≡ stream
    → steps_of stream (h ++ e ∷ []) ≡ steps_of stream h ++ e.step ∷ []
steps_here stream [] e same = rw (eq-eqb e.stream stream same) refl
steps_here stream (x ∷ xs) e same =
    grow (eqb x.stream stream) x.step e.step (steps_of stream xs) (steps_of stream (xs ++ e ∷ []))
    (steps_here stream xs e same)

steps_else : (stream : ℕ) (h : List Post) (e : Post) → e.stream ≢ stream
    → steps_of stream (h ++ e ∷ []) ≡ steps_of stream h
steps_else stream [] e other = rw (ne_eqb e.stream stream other) refl
steps_else stream (x ∷ xs) e other =
    ap (λ (l : List Step). cond (eqb x.stream stream) (x.step ∷ l) l) (steps_else stream xs e other)

-- the row of the step's stream
pub row_here : (stream : ℕ) (h : List Post) (e : Post) → e.stream ≡ stream
    → row_of stream (h ++ e ∷ []) ≡ row_after (row_of stream h) e.step
row_here stream h e same =
    ap (row_after_all fresh_row) (steps_here stream h e same) ∙ after_all_push fresh_row (steps_of stream h) e.step

-- the row of another stream
pub row_else : (stream : ℕ) (h : List Post) (e : Post) → e.stream ≢ stream
    → row_of stream (h ++ e ∷ []) ≡ row_of stream h
row_else stream h e other = ap (row_after_all fresh_row) (steps_else stream h e other)

-- ---- a legal history stays legal by a step that is allowed

abbrev ended : Option ℕ → ℕ → Row
ended process events = record { process = process; events = events; state = HasEnded }

abbrev faulted : Option ℕ → ℕ → Row
faulted process events = record { process = process; events = events; state = Faulted }

none_after_end : (process : Option ℕ) (events : ℕ) (s : Step) → allows (ended process events) s ≡ true → ⊥
none_after_end process events (StepJoin q) e = search rules
none_after_end process events StepEvent e = search rules
none_after_end process events StepEnd e = search rules
none_after_end process events StepFault e = search rules

none_after_fault : (process : Option ℕ) (events : ℕ) (s : Step) → allows (faulted process events) s ≡ true → ⊥
none_after_fault process events (StepJoin q) e = search rules
none_after_fault process events StepEvent e = search rules
none_after_fault process events StepEnd e = search rules
none_after_fault process events StepFault e = search rules

both : (a b c : Bool) → a && b ≡ true → (b ≡ true → c ≡ true) → a && c ≡ true
both true b c e f = f e
both false b c e f = e

rest_push : (process events : ℕ) (steps : List Step) (s : Step) → is_rest events steps ≡ true
    → allows (row_after_all (joined_row process events []) steps) s ≡ true → is_rest events (steps ++ s ∷ []) ≡ true
rest_push process events [] (StepJoin q) run may = absurd (search rules)
rest_push process events [] StepEvent run may = ap (λ (b : Bool). b && true) may
rest_push process events [] StepEnd run may = refl
rest_push process events [] StepFault run may = refl
rest_push process events (StepJoin q ∷ later) s run may = absurd (search rules)
rest_push process events (StepEvent ∷ later) s run may =
    both (ltb events event_limit) (is_rest (events + 1) later) (is_rest (events + 1) (later ++ s ∷ [])) run
    (λ r. rest_push process (events + 1) later s r may)
rest_push process events (StepEnd ∷ []) s run may = absurd (none_after_end (Some process) events s may)
rest_push process events (StepEnd ∷ (x ∷ xs)) s run may = absurd (search rules)
rest_push process events (StepFault ∷ []) s run may = absurd (none_after_fault (Some process) events s may)
rest_push process events (StepFault ∷ (x ∷ xs)) s run may = absurd (search rules)

run_push : (steps : List Step) (s : Step) → is_run steps ≡ true → allows (row_after_all fresh_row steps) s ≡ true
    → is_run (steps ++ s ∷ []) ≡ true
run_push [] (StepJoin q) run may = refl
run_push [] StepEvent run may = absurd (search rules)
run_push [] StepEnd run may = absurd (search rules)
run_push [] StepFault run may = refl
run_push (StepJoin q ∷ later) s run may = rest_push q 0 later s run may
run_push (StepEvent ∷ later) s run may = absurd (search rules)
run_push (StepEnd ∷ later) s run may = absurd (search rules)
run_push (StepFault ∷ []) s run may = absurd (none_after_fault None 0 s may)
run_push (StepFault ∷ (x ∷ xs)) s run may = absurd (search rules)

-- one step more, of one of the streams, which its row allows
pub legal_push : (n : ℕ) (h : List Post) (e : Post) → PassesAsLegal n h → e.stream < n
    → allows (row_of e.stream h) e.step ≡ true → PassesAsLegal n (h ++ e ∷ [])
legal_push n h e legal below may = (
  All-push (λ (x : Post). x.stream < n) h e legal.0 below,
  λ k. dite (ℕ_discrete e.stream k)
      (λ same. subst (λ (l : List Step). is_run l ≡ true) (sym (steps_here k h e same))
      (run_push (steps_of k h) e.step (legal.1 k)
      (subst (λ (j : ℕ). allows (row_of j h) e.step ≡ true) same may)))
      (λ other. subst (λ (l : List Step). is_run l ≡ true) (sym (steps_else k h e other)) (legal.1 k)),
)

-- ---- the rows of all streams

rows_else : (first n : ℕ) (h : List Post) (e : Post) → e.stream < first
    → rows_from first n (h ++ e ∷ []) ≡ rows_from first n h
rows_else first zero h e below = refl
rows_else first (suc n) h e below =
    let head = row_else first h e (λ same. omega arith) in
    let tail = rows_else (first + 1) n h e (omega arith) in
    λ i. head i ∷ tail i

-- after one step more, the rows are as they were but for the step's stream
pub rows_set : (first n : ℕ) (h : List Post) (e : Post) (k : ℕ) → e.stream ≡ first + k → k < n
    → rows_from first n (h ++ e ∷ []) ≡ set (rows_from first n h) k (row_after (row_of e.stream h) e.step)
rows_set first zero h e k at near = absurd (omega arith)
rows_set first (suc n) h e zero at near =
    let same : e.stream ≡ first = omega arith in
    let head : row_of first (h ++ e ∷ []) ≡ row_after (row_of e.stream h) e.step =
    row_here first h e same ∙ ap (λ (j : ℕ). row_after (row_of j h) e.step) (sym same) in
    let tail = rows_else (first + 1) n h e (omega arith) in
    λ i. head i ∷ tail i
rows_set first (suc n) h e (suc k) at near =
    let head = row_else first h e (λ same. omega arith) in
    let tail = rows_set (first + 1) n h e k (omega arith) (omega arith) in
    λ i. head i ∷ tail i

pub row_at : (first n : ℕ) (h : List Post) (k : ℕ) (d : Row) → k < n
    → get_or (rows_from first n h) k d ≡ row_of (first + k) h
row_at first zero h k d near = absurd (omega arith)
row_at first (suc n) h zero d near = ap (λ (j : ℕ). row_of j h) (omega arith)
row_at first (suc n) h (suc k) d near =
    row_at (first + 1) n h k d (omega arith) ∙ ap (λ (j : ℕ). row_of j h) (omega arith)

pub row_found : (first n : ℕ) (h : List Post) (k : ℕ) → k < n
    → slice_get (rows_from first n h) k ≡ Some (row_of (first + k) h)
row_found first zero h k near = absurd (omega arith)
row_found first (suc n) h zero near = ap (λ (j : ℕ). Some (row_of j h)) (omega arith)
row_found first (suc n) h (suc k) near =
    row_found (first + 1) n h k (omega arith) ∙ ap (λ (j : ℕ). Some (row_of j h)) (omega arith)

pub length_rows : (first n : ℕ) (h : List Post) → length (rows_from first n h) ≡ n
length_rows first zero h = refl
length_rows first (suc n) h = ap suc (length_rows (first + 1) n h)

-- one stream more has a fresh row
pub rows_more : (first n : ℕ) → rows_from first n [] ++ fresh_row ∷ [] ≡ rows_from first (n + 1) []
rows_more first zero = refl
rows_more first (suc n) =
    let e : suc (n + 1) ≡ suc n + 1 = omega arith in
    ap (λ (l : List Row). fresh_row ∷ l) (rows_more (first + 1) n) ∙ ap (λ (k : ℕ). rows_from first k []) e

-- ---- the test of legal histories is exact

-- the steps after a join and this many events
record IsRest (before : ℕ) (steps : List Step) : Type 0 where
  events : ℕ
  last : List Step
  few : before + events ≤ event_limit
  ends : IsLast last
  parts : steps ≡ event_steps events ++ last

ends_rest : (before : ℕ) (last : List Step) → before ≤ event_limit → IsLast last → IsRest before last
ends_rest before last few ends = record { events = 0; last = last; few = omega arith; ends = ends; parts = refl }

left : (a b : Bool) → a && b ≡ true → a ≡ true
left true b e = refl
left false b e = e

right : (a b : Bool) → a && b ≡ true → b ≡ true
right true b e = e
right false b e = absurd (search (rules, e))

below : (a b : ℕ) → ltb a b ≡ true → a < b
below a b e = grind (arith, nat_tests)

is_below : (a b : ℕ) → a < b → ltb a b ≡ true
is_below a b e = grind (arith, nat_tests)

rest_found : (before : ℕ) (steps : List Step) → before ≤ event_limit → is_rest before steps ≡ true
    → IsRest before steps
rest_found before [] few e = ends_rest before [] few (inl refl)
rest_found before (StepJoin q ∷ later) few e = absurd (search rules)
rest_found before (StepEvent ∷ later) few e =
    let near = below before event_limit (left (ltb before event_limit) (is_rest (before + 1) later) e) in
    let t = rest_found (before + 1) later (omega arith)
    (right (ltb before event_limit) (is_rest (before + 1) later) e) in record {
      events = suc t.events;
      last = t.last;
      few = omega (arith, t.few);
      ends = t.ends;
      parts = ap (λ (l : List Step). StepEvent ∷ l) t.parts;
    }
rest_found before (StepEnd ∷ []) few e = ends_rest before (StepEnd ∷ []) few (inr (inl refl))
rest_found before (StepEnd ∷ (x ∷ xs)) few e = absurd (search rules)
rest_found before (StepFault ∷ []) few e = ends_rest before (StepFault ∷ []) few (inr (inr refl))
rest_found before (StepFault ∷ (x ∷ xs)) few e = absurd (search rules)

last_passes : (before : ℕ) (last : List Step) → IsLast last → is_rest before last ≡ true
last_passes before last (inl e) = ap (is_rest before) e
last_passes before last (inr (inl e)) = ap (is_rest before) e
last_passes before last (inr (inr e)) = ap (is_rest before) e

rest_passes : (before events : ℕ) (last : List Step) → before + events ≤ event_limit → IsLast last
    → is_rest before (event_steps events ++ last) ≡ true
rest_passes before zero last few ends = last_passes before last ends
rest_passes before (suc n) last few ends =
    ap (λ (b : Bool). b && is_rest (before + 1) (event_steps n ++ last)) (is_below before event_limit (omega arith))
    ∙ rest_passes (before + 1) n last (omega arith) ends

run_found : (steps : List Step) → is_run steps ≡ true → IsRun steps
run_found [] e = inl refl
run_found (StepJoin process ∷ later) e =
    let t = rest_found 0 later (omega arith) e in
    inr (inr (record {
      process = process;
      events = t.events;
      last = t.last;
      few = omega (arith, t.few);
      ends = t.ends;
      parts = ap (λ (l : List Step). StepJoin process ∷ l) t.parts;
    }))
run_found (StepEvent ∷ later) e = absurd (search rules)
run_found (StepEnd ∷ later) e = absurd (search rules)
run_found (StepFault ∷ []) e = inr (inl refl)
run_found (StepFault ∷ (x ∷ xs)) e = absurd (search rules)

run_passes : (steps : List Step) → IsRun steps → is_run steps ≡ true
run_passes steps (inl e) = ap is_run e
run_passes steps (inr (inl e)) = ap is_run e
run_passes steps (inr (inr run)) =
    ap is_run run.parts ∙ rest_passes 0 run.events run.last (omega (arith, run.few)) run.ends

pub runs_are_decided : RunsAreDecided
runs_are_decided steps = (run_passes steps, run_found steps)

pub legal_found : (n : ℕ) (h : List Post) → PassesAsLegal n h → IsLegal n h
legal_found n h t = record { within = t.0; runs = λ k. run_found (steps_of k h) (t.1 k) }

pub legal_is_decided : LegalIsDecided
legal_is_decided n h = (λ t. (t.within, λ k. run_passes (steps_of k h) (t.runs k)), legal_found n h)

-- ---- what a row has

last_row : (process events : ℕ) (last : List Step) → IsLast last
    → row_after_all (joined_row process events []) last ≡ joined_row process events last
last_row process events last (inl e) =
    subst (λ l. row_after_all (joined_row process events []) l ≡ joined_row process events l) (sym e) refl
last_row process events last (inr (inl e)) =
    subst (λ l. row_after_all (joined_row process events []) l ≡ joined_row process events l) (sym e) refl
last_row process events last (inr (inr e)) =
    subst (λ l. row_after_all (joined_row process events []) l ≡ joined_row process events l) (sym e) refl

joined_rows : (process before events : ℕ) (last : List Step) → IsLast last
    → row_after_all (joined_row process before []) (event_steps events ++ last)
    ≡ joined_row process (before + events) last
joined_rows process before zero last ends =
    last_row process before last ends ∙ ap (λ (k : ℕ). joined_row process k last) (omega arith)
joined_rows process before (suc n) last ends =
    joined_rows process (before + 1) n last ends ∙ ap (λ (k : ℕ). joined_row process k last) (omega arith)

pub rows_are_read : RowsAreRead
rows_are_read = record {
  none_yet = refl;
  fault_alone = refl;
  joined = λ process events last ends. joined_rows process 0 events last ends
      ∙ ap (λ (k : ℕ). joined_row process k last) (omega arith);
}

-- ---- a history that goes on

with_more : (b : Bool) (s : Step) (l m more : List Step) → l ≡ m ++ more
    → cond b (s ∷ l) l ≡ cond b (s ∷ m) m ++ more
with_more true s l m more e = ap (λ (k : List Step). s ∷ k) e
with_more false s l m more e = e

more_steps : (stream : ℕ) (h more : List Post)
    → steps_of stream (h ++ more) ≡ steps_of stream h ++ steps_of stream more
more_steps stream [] more = refl
more_steps stream (x ∷ xs) more =
    with_more (eqb x.stream stream) x.step (steps_of stream (xs ++ more)) (steps_of stream xs) (steps_of stream more)
    (more_steps stream xs more)

events_after : (row : Row) (s : Step) → row.events ≤ (row_after row s).events
events_after row (StepJoin q) = omega arith
events_after row StepEvent = omega arith
events_after row StepEnd = omega arith
events_after row StepFault = omega arith

events_grow : (row : Row) (steps : List Step) → row.events ≤ (row_after_all row steps).events
events_grow row [] = omega arith
events_grow row (s ∷ later) = omega (arith, events_after row s, events_grow (row_after row s) later)

after_more : (row : Row) (steps more : List Step)
    → row_after_all row (steps ++ more) ≡ row_after_all (row_after_all row steps) more
after_more row [] more = refl
after_more row (s ∷ later) more = after_more (row_after row s) later more

pub events_never_fall : EventsNeverFall
events_never_fall stream h more =
    let new = steps_of stream more in
    let same : row_of stream (h ++ more) ≡ row_after_all (row_of stream h) new =
    ap (row_after_all fresh_row) (more_steps stream h more) ∙ after_more fresh_row (steps_of stream h) new in
    omega (arith, events_grow (row_of stream h) new, ap (λ (r : Row). r.events) same)
