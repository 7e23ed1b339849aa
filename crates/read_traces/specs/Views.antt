-- What the program's events and traces stand for.
use Rattle.std.specs.Prelude.{List, map, string_bytes}
use Rattle.def_model.specs.Events as events
use Rattle.def_format.specs.Readings as readings
use Rattle.read_traces.specs.declared.event.EventKind.{EventKind}
use Rattle.read_traces.specs.declared.event.EventKind.TheVariants as kinds
use Rattle.read_traces.specs.declared.event.Event.{Event}
use Rattle.read_traces.specs.declared.event.Trace.{Trace}

abbrev pub kind_view : EventKind → events.Kind
kind_view kinds.Local = events.Local
kind_view (kinds.Send id) = events.Send (string_bytes id)
kind_view (kinds.Recv id) = events.Receive (string_bytes id)

abbrev pub event_view : Event → events.Event
event_view event = record { kind = kind_view event.kind; sets = event.sets.items }

-- the events of each trace
abbrev pub computation_view : List Trace → events.Computation
computation_view traces = map (λ (process : Trace). process.events) traces

abbrev pub trace_view : Trace → readings.Trace
trace_view trace = record {
  process = trace.process;
  join_line = trace.join_line;
  events = trace.events;
}
