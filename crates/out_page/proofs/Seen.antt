-- What rows, traces and messages are seen as, one at a time.
use Rattle.std.specs.Prelude.{ℤ, List, Vec}
use Rattle.std.specs.declared.alloc.Global.{Global}
use Rattle.pd_match.specs.Views.{place_view}
use Rattle.pd_match.specs.declared.place.Place.{Place}
use Rattle.def_model.specs.Events as events
use Rattle.read_traces.specs.declared.event.Trace.{Trace}

abbrev pub row_items : Vec ℤ Global → List ℤ
row_items row = row.items

abbrev pub trace_events : Trace → List events.Event
trace_events trace = trace.events

abbrev pub pair_view : Place × Place → events.Place × events.Place
pair_view pair = (place_view pair.0, place_view pair.1)
