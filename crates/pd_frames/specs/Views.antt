-- What the program's lines and faults stand for.
use Rattle.std.specs.Cow.{cow_slice_items}
use Rattle.std.specs.Prelude.{◌≡◌, ℕ, List, [], map, Option, option_map}
use Rattle.def_format.specs.Lines as lines
use Rattle.pd_frames.specs.declared.line.Batch.{Batch}
use Rattle.pd_frames.specs.declared.line.Line.{Line}
use Rattle.pd_frames.specs.declared.line.FrameFault.{FrameFault}
use Rattle.pd_frames.specs.declared.line.FrameFault.TheVariants.{LineTooLong, StreamTooLong}

abbrev pub line_view : Line → lines.Line
line_view line = lines.line line.number (cow_slice_items line.bytes)

abbrev pub lines_view : List Line → List lines.Line
lines_view all = map line_view all

abbrev pub frame_fault_view : FrameFault → lines.FrameFault
frame_fault_view (LineTooLong line) = lines.LineTooLong line
frame_fault_view (StreamTooLong line) = lines.StreamTooLong line

abbrev pub frame_faults_view : Option FrameFault → Option lines.FrameFault
frame_faults_view fault = option_map frame_fault_view fault

-- the line in which the first faulty byte stands
abbrev pub fault_line : lines.FrameFault → ℕ
fault_line (lines.LineTooLong line) = line
fault_line (lines.StreamTooLong line) = line

-- the batch has no line, and this fault
pub record IsFaultAlone (fault : Option lines.FrameFault) (batch : Batch) : Type 0 where
  pub no_line : batch.lines.items ≡ []
  pub same_fault : frame_faults_view batch.fault ≡ fault
