-- What the loop of `push_unmarked` keeps.
use Rattle.std.proofs.Common.{◌≡◌, ◌++◌, take, flat_map}
use Rattle.read_traces.specs.Views.{computation_view}
use Rattle.out_picture.specs.Pictures.{flight_shapes}
use Rattle.out_picture.specs.Received.{is_unmarked_send}
use Rattle.out_picture.specs.Shapes.{all_seen}
use Rattle.out_picture.specs.Tables.{column_at, places_view}
use Rattle.out_picture.proofs.flights.push_unmarked.Given as goal

abbrev pub invariant-loop-place : goal.invariant-loop-place
invariant-loop-place l = all_seen l.shapes.items ≡ all_seen l.initial.shapes.items
    ++ flat_map (flight_shapes l.window (column_at l.rows) (is_unmarked_send (computation_view l.traces) l.received))
    (places_view (take l.place-index l.places))
