-- What the progress of a stream stands for.
use Rattle.std.specs.Prelude.{ℕ, List, Option, Some, None, option_map}
use Rattle.def_model.specs.Events as events
use Rattle.def_format.specs.Records as records
use Rattle.def_format.specs.Readings.{Reading, Stop, NothingMore, EndLine, Fault, InRecord, StreamKind}
use Rattle.pd_events.specs.Views.{stream_kind_view}
use Rattle.pd_events.specs.declared.fault.StreamFault.{StreamFault}
use Rattle.pd_events.specs.declared.progress.Join.{Join}
use Rattle.pd_events.specs.declared.progress.Phase.{Phase}
use Rattle.pd_events.specs.declared.progress.Phase.TheVariants.{Fresh, Joined, Ended, Faulted}

abbrev pub in_record : records.RecordFault → StreamKind
in_record fault = InRecord fault

abbrev pub join_view : Join → ℕ × ℕ
join_view join = (join.process, join.line)

abbrev pub joined_view : Option Join → Option (ℕ × ℕ)
joined_view joined = option_map join_view joined

abbrev pub joined_of : Phase → Option (ℕ × ℕ)
joined_of Fresh = None
joined_of (Joined join) = Some (join_view join)
joined_of (Ended join) = Some (join_view join)
joined_of (Faulted joined fault) = joined_view joined

abbrev pub stop_of_fault : Option StreamFault → Stop
stop_of_fault None = NothingMore
stop_of_fault (Some fault) = Fault fault.line (stream_kind_view fault.kind)

abbrev pub stop_of : Phase → Stop
stop_of Fresh = NothingMore
stop_of (Joined join) = NothingMore
stop_of (Ended join) = EndLine
stop_of (Faulted joined fault) = Fault fault.line (stream_kind_view fault.kind)

abbrev pub reading_view : Phase → List events.Event → Reading
reading_view phase events = record { joined = joined_of phase; events = events; stop = stop_of phase }

abbrev pub open_reading : Option (ℕ × ℕ) → List events.Event → Reading
open_reading joined events = record { joined = joined; events = events; stop = NothingMore }
