-- A tool of proofs: nothing that a reader has to believe. Which steps a stream may make can be tested, what its row is
-- after them, and that its events never get fewer. Each law is proved at a function of the crate.
use Rattle.std.specs.Prelude.{◌≡◌, ◌↔◌, ℕ, ◌+◌, ◌<◌, ◌≤◌, ltb, Bool, true, false, ◌&&◌, List, [], ◌∷◌, ◌++◌, All, Some, None}
use Rattle.def_format.specs.Readings.{StreamState, Joined, HasEnded, Faulted}
use Rattle.def_format.specs.Limits.{event_limit}
use Rattle.def_format.specs.Histories.{Step, StepJoin, StepEvent, StepEnd, StepFault, Post, steps_of, event_steps, IsLast, IsRun, IsLegal, Row, fresh_row, row_after_all, row_of}

-- what may stand after a join and this many events
abbrev pub is_rest : ℕ → List Step → Bool
is_rest events [] = true
is_rest events (StepEvent ∷ later) = ltb events event_limit && is_rest (events + 1) later
is_rest events (StepEnd ∷ []) = true
is_rest events (StepFault ∷ []) = true
is_rest events (_ ∷ later) = false

-- whether one stream may make these steps
abbrev pub is_run : List Step → Bool
is_run [] = true
is_run (StepFault ∷ []) = true
is_run (StepJoin process ∷ later) = is_rest 0 later
is_run (_ ∷ later) = false

-- the test of legal histories
abbrev pub PassesAsLegal : ℕ → List Post → Type 0
PassesAsLegal n history =
    All (λ e. e.stream < n) history × ((stream : ℕ) → is_run (steps_of stream history) ≡ true)

-- the test is exact
abbrev pub RunsAreDecided : Type 0
RunsAreDecided = (steps : List Step) → IsRun steps ↔ (is_run steps ≡ true)

abbrev pub LegalIsDecided : Type 0
LegalIsDecided = (n : ℕ) (history : List Post) → IsLegal n history ↔ PassesAsLegal n history

-- the state after a join, some events and then these steps
abbrev pub state_after : List Step → StreamState
state_after [] = Joined
state_after (StepEnd ∷ later) = HasEnded
state_after (_ ∷ later) = Faulted

-- the row after one fault alone
abbrev pub faulted_row : Row
faulted_row = record { process = None; events = 0; state = Faulted }

-- the row of a stream that joined, had this many events and then made these steps
abbrev pub joined_row : ℕ → ℕ → List Step → Row
joined_row process events last = record { process = Some process; events = events; state = state_after last }

-- in a history that goes on, no stream has fewer events
abbrev pub EventsNeverFall : Type 0
EventsNeverFall = (stream : ℕ) (history more : List Post)
    → (row_of stream history).events ≤ (row_of stream (history ++ more)).events

-- a row has the process of the join, the number of events and the state
pub record RowsAreRead : Type 0 where
  pub none_yet : row_after_all fresh_row [] ≡ fresh_row
  pub fault_alone : row_after_all fresh_row (StepFault ∷ []) ≡ faulted_row
  pub joined : (process events : ℕ) (last : List Step) → IsLast last
      → row_after_all fresh_row (StepJoin process ∷ event_steps events ++ last) ≡ joined_row process events last
