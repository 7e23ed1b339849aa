-- A register's history: which stream made which step, in order; when it is legal; and the streams' rows in it.
use Rattle.std.specs.Prelude.{◌≡◌, ℕ, zero, suc, ◌+◌, ◌<◌, ◌≤◌, ◌⊎◌, eqb, ltb, cond, Bool, true, false, List, [], ◌∷◌, ◌++◌, All, Option, Some, None}
use Rattle.def_format.specs.Readings.{StreamState, Fresh, Joined, HasEnded, Faulted}
use Rattle.def_format.specs.Limits.{event_limit}

-- what a stream does: it joins a process, by number, has one event, ends, or is at fault
pub data Step : Type 0 where
  StepJoin : (process : ℕ) → Step
  StepEvent : Step
  StepEnd : Step
  StepFault : Step

-- a step with its stream, by number
pub record Post : Type 0 where
  pub stream : ℕ
  pub step : Step

abbrev pub post_of : ℕ → Step → Post
post_of stream step = record { stream = stream; step = step }

-- the steps of one stream, in order
abbrev pub steps_of : ℕ → List Post → List Step
steps_of stream [] = []
steps_of stream (e ∷ es) = cond (eqb e.stream stream) (e.step ∷ steps_of stream es) (steps_of stream es)

-- ---- legal histories

-- this many events, one after another
abbrev pub event_steps : ℕ → List Step
event_steps zero = []
event_steps (suc n) = StepEvent ∷ event_steps n

-- what may stand after the events of a stream: nothing, one end or one fault
abbrev pub IsLast : List Step → Type 0
IsLast last = (last ≡ []) ⊎ (last ≡ StepEnd ∷ []) ⊎ (last ≡ StepFault ∷ [])

-- one join, at most `event_limit` events, and then nothing, one end or one fault
pub record IsJoinedRun (steps : List Step) : Type 0 where
  pub process : ℕ
  pub events : ℕ
  pub last : List Step
  pub few : events ≤ event_limit
  pub ends : IsLast last
  pub parts : steps ≡ StepJoin process ∷ event_steps events ++ last

-- the steps that one stream may make: none, one fault alone, or those of one that joins
abbrev pub IsRun : List Step → Type 0
IsRun steps = (steps ≡ []) ⊎ (steps ≡ StepFault ∷ []) ⊎ IsJoinedRun steps

-- a legal history of n streams: each step is that of one of them, and each makes steps that it may make
pub record IsLegal (n : ℕ) (history : List Post) : Type 0 where
  pub within : All (λ e. e.stream < n) history
  pub runs : (stream : ℕ) → IsRun (steps_of stream history)

-- ---- rows

-- what is known of a stream: its process, by number, its events so far, and its state
pub record Row : Type 0 where
  pub process : Option ℕ
  pub events : ℕ
  pub state : StreamState

-- the row of a stream without steps
abbrev pub fresh_row : Row
fresh_row = record { process = None; events = 0; state = Fresh }

abbrev pub allows_in : StreamState → ℕ → Step → Bool
allows_in Fresh events (StepJoin process) = true
allows_in Fresh events StepFault = true
allows_in Joined events StepEvent = ltb events event_limit
allows_in Joined events StepEnd = true
allows_in Joined events StepFault = true
allows_in _ events _ = false

-- whether a stream with this row may make this step next
abbrev pub allows : Row → Step → Bool
allows row step = allows_in row.state row.events step

-- the row after the step
abbrev pub row_after : Row → Step → Row
row_after row (StepJoin process) = record { process = Some process; events = row.events; state = Joined }
row_after row StepEvent = record { process = row.process; events = row.events + 1; state = row.state }
row_after row StepEnd = record { process = row.process; events = row.events; state = HasEnded }
row_after row StepFault = record { process = row.process; events = row.events; state = Faulted }

abbrev pub row_after_all : Row → List Step → Row
row_after_all row [] = row
row_after_all row (step ∷ later) = row_after_all (row_after row step) later

-- the row of a stream: it has the process of its join, the number of its events and its state
abbrev pub row_of : ℕ → List Post → Row
row_of stream history = row_after_all fresh_row (steps_of stream history)

-- the rows of this many streams, from `first` on
abbrev pub rows_from : ℕ → ℕ → List Post → List Row
rows_from first zero history = []
rows_from first (suc n) history = row_of first history ∷ rows_from (first + 1) n history

-- the rows of the streams below n, in order
abbrev pub rows_of : ℕ → List Post → List Row
rows_of n history = rows_from 0 n history
