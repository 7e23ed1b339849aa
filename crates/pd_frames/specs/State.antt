-- What a framer shows of itself, and which bytes it stands for.
use Rattle.std.specs.Prelude.{◌≡◌, ℕ, ◌+◌, Bool, true, false, if◌then◌else◌, List, Option, Some, None}
use Rattle.def_format.specs.Lines.{FrameFault, frame_fault, line_number, line_count}
use Rattle.pd_frames.specs.Views.{fault_line}
use Rattle.pd_frames.specs.Cuts.{IsOpen}

pub record State : Type 0 where
  -- the bytes of the line that no LF has ended yet
  pub rest : List ℕ
  -- its number
  pub line : ℕ
  -- how many bytes came
  pub total : ℕ
  pub fault : Option FrameFault
  pub finished : Bool

-- the state is that of these bytes, after which more may come or not
pub record Stands (state : State) (bytes : List ℕ) (ended : Bool) : Type 0 where
  pub same_end : state.finished ≡ ended
  pub same_fault : state.fault ≡ frame_fault bytes
  pub while_open : ended ≡ false → frame_fault bytes ≡ None → IsOpen state.rest state.line state.total bytes
  pub at_end : ended ≡ true → frame_fault bytes ≡ None → state.line ≡ line_count bytes + 1

-- the same state once the end has come, where the rest is no line
abbrev pub finished_state : State → State
finished_state s = record { rest = s.rest; line = s.line; total = s.total; fault = s.fault; finished = true }

-- the number of the line in which the next byte would stand; that of the fault, if there is one
abbrev pub line_or : Option FrameFault → ℕ → ℕ
line_or None line = line
line_or (Some fault) line = fault_line fault

abbrev pub line_to_come : List ℕ → Bool → ℕ
line_to_come bytes ended = line_or (frame_fault bytes) (if ended then line_count bytes + 1 else line_number bytes)
