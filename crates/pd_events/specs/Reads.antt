-- Which reading a trace reader stands for.
use Rattle.std.specs.Prelude.{◌≡◌, ℕ, false, List, Option, Some, None}
use Rattle.def_format.specs.Names.{ProcessNames}
use Rattle.def_format.specs.Readings.{Ending, Reading, Stop, NothingMore, Fault, LineTooLong, StreamTooLong, reading}
use Rattle.pd_frames.specs.State.{State, Stands}
use Rattle.pd_frames.specs.declared.line.FrameFault.{FrameFault}
use Rattle.pd_frames.specs.declared.line.FrameFault.TheVariants as faults

-- what a trace reader shows of itself
pub record ReaderState : Type 0 where
  pub names : List ProcessNames
  pub framer : State
  pub reading : Reading

-- the state is that of the reading of these bytes, after which more may come, or nothing, or a failed read
pub record Reads (state : ReaderState) (names : List ProcessNames) (ending : Ending) (bytes : List ℕ) : Type 0 where
  pub same_names : state.names ≡ names
  pub same_reading : state.reading ≡ reading names ending bytes
  -- while it isn't closed
  pub framed : state.reading.stop ≡ NothingMore → Stands state.framer bytes false

-- how a stream stops if its bytes have a fault
abbrev pub stop_of_frame : Option FrameFault → Stop
stop_of_frame None = NothingMore
stop_of_frame (Some (faults.LineTooLong line)) = Fault line LineTooLong
stop_of_frame (Some (faults.StreamTooLong line)) = Fault line StreamTooLong
