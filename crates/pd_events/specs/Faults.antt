-- Why a line has no record.
use Rattle.std.specs.Prelude.{Option, Some, None}
use Rattle.def_format.specs.Records as records
use Rattle.pd_events.specs.declared.fault.RecordFault.{RecordFault}
use Rattle.pd_events.specs.declared.fault.RecordFault.TheVariants as faults

-- the fault of the line that is reported, if it isn't out of memory
abbrev pub record_fault_view : RecordFault → Option records.RecordFault
record_fault_view faults.Json = Some records.Json
record_fault_view faults.Shape = Some records.Shape
record_fault_view faults.Join = Some records.Join
record_fault_view faults.UnknownProcess = Some records.UnknownProcess
record_fault_view faults.UnknownVar = Some records.UnknownVar
record_fault_view faults.Value = Some records.Value
record_fault_view faults.MessageId = Some records.MessageId
record_fault_view faults.Memory = None
