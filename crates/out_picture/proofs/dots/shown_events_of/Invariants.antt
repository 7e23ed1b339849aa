-- What the loop of `shown_events_of` keeps.
use Rattle.std.proofs.Common.{◌≡◌}
use Rattle.def_model.specs.Events.{event_count}
use Rattle.read_traces.specs.Views.{computation_view}
use Rattle.out_picture.specs.Layout.{upto}
use Rattle.out_picture.specs.Pictures.{shown_of}
use Rattle.out_picture.specs.Tables.{column_at, places_view}
use Rattle.out_picture.proofs.dots.shown_events_of.Given as goal

abbrev pub invariant-loop-p : goal.invariant-loop-p
invariant-loop-p l = places_view l.places.items
    ≡ upto (λ p. shown_of l.window (column_at l.rows) p (event_count (computation_view l.traces) p)) l.p
