-- What the program's steps, rows and histories stand for.
use Rattle.std.specs.Prelude.{◌≡◌, ℕ, List, length, map, Some, slice_get, slice_index_or}
use Rattle.def_format.specs.Readings as readings
use Rattle.def_format.specs.Histories as histories
use Rattle.def_format.specs.Histories.{StepJoin, StepEvent, StepEnd, StepFault, fresh_row, row_of, rows_of}
use Rattle.pd_register.specs.declared.step.Step.{Step}
use Rattle.pd_register.specs.declared.step.Step.TheVariants as steps
use Rattle.pd_register.specs.declared.post.Post.{Post}
use Rattle.pd_register.specs.declared.row.Row.{Row}
use Rattle.pd_register.specs.declared.row.RowState.{RowState}
use Rattle.pd_register.specs.declared.row.RowState.TheVariants as states

abbrev pub step_view : Step → histories.Step
step_view (steps.Join process) = StepJoin process
step_view steps.Event = StepEvent
step_view steps.End = StepEnd
step_view steps.Fault = StepFault

abbrev pub post_view : Post → histories.Post
post_view post = record { stream = post.stream; step = step_view post.step }

abbrev pub history_view : List Post → List histories.Post
history_view posts = map post_view posts

abbrev pub row_state_view : RowState → readings.StreamState
row_state_view states.Fresh = readings.Fresh
row_state_view states.Joined = readings.Joined
row_state_view states.Ended = readings.HasEnded
row_state_view states.Faulted = readings.Faulted

abbrev pub row_view : Row → histories.Row
row_view row = record { process = row.process; events = row.events; state = row_state_view row.state }

abbrev pub rows_view : List Row → List histories.Row
rows_view rows = map row_view rows

-- the rows are those of n streams in the history
pub record AreRowsOf (n : ℕ) (history : List histories.Post) (rows : List Row) : Type 0 where
  pub count : length rows ≡ n
  pub each : rows_view rows ≡ rows_of n history

-- the row at the stream's place
abbrev pub HasRow : List Row → ℕ → histories.Row → Type 0
HasRow rows stream row = slice_get (rows_view rows) stream ≡ Some row

abbrev pub row_or_fresh : List Row → ℕ → histories.Row
row_or_fresh rows stream = slice_index_or (rows_view rows) stream fresh_row

-- ---- and back

abbrev pub row_state_value : readings.StreamState → RowState
row_state_value readings.Fresh = states.Fresh
row_state_value readings.Joined = states.Joined
row_state_value readings.HasEnded = states.Ended
row_state_value readings.Faulted = states.Faulted

-- the program's row that stands for this one
abbrev pub row_value : histories.Row → Row
row_value row = record { process = row.process; events = row.events; state = row_state_value row.state }

-- the program's post of a stream and its step
abbrev pub post_value : ℕ → Step → Post
post_value stream step = record { stream = stream; step = step }

-- the program's row of a stream in these posts
abbrev pub row_in : ℕ → List Post → Row
row_in stream posts = row_value (row_of stream (history_view posts))
