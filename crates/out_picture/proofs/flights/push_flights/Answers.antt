-- The sends that aren't marked are those of messages in flight.
use Rattle.std.proofs.Common.{◌≡◌, ◌++◌, Bool, List, flat_map, subst, sym}
use Rattle.std.specs.Prelude.{OnOk, Vec}
use Rattle.std.specs.Global.{Global}
use Rattle.def_model.specs.Events.{Computation, Place}
use Rattle.read_traces.specs.Views.{computation_view}
use Rattle.out_picture.specs.Pictures.{flight_shapes}
use Rattle.out_picture.specs.Received.{AreReceived}
use Rattle.out_picture.specs.Shapes.{all_seen}
use Rattle.out_picture.specs.Tables.{column_at, places_view}
use Rattle.out_picture.proofs.ReceivedFacts.{unmarked_are}
use Rattle.out_picture.proofs.flights.push_flights.Goals as goal

pub returns : goal.returns
returns c =
    let run : Computation = computation_view c.args.traces.now in
    let are : AreReceived run c.args.messages.now c.deref.result.now =
    subst (λ (rows : List (Vec Bool Global)). AreReceived run c.args.messages.now rows) (sym c.deref.ensures.value)
    c.in_ok-received.ensures in
    subst (λ (flights : Place → Bool). OnOk c.push_unmarked.result (all_seen c.push_unmarked.new.shapes.items
    ≡ all_seen c.args.shapes.now.items
    ++ flat_map (flight_shapes c.args.window (column_at c.args.rows.now) flights) (places_view c.args.places.now)))
    (unmarked_are run c.args.messages.now c.deref.result.now are) c.push_unmarked.ensures
