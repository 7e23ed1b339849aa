-- A drawing of these shapes, of this size, is the picture.
use Rattle.std.proofs.Common.{◌≡◌, ℕ, ◌-◌, List, ◌++◌, length, ap, ◌∙◌}
use Rattle.std.specs.String.{string_bytes}
use Rattle.def_model.specs.Events.{Computation, Place}
use Rattle.def_model.specs.Messages.{IsMessageList}
use Rattle.pd_match.specs.Views.{pairs_view}
use Rattle.pd_match.specs.declared.place.Place.{Place as MatchedPlace}
use Rattle.out_svg.specs.declared.drawing.Drawing.{Drawing}
use Rattle.out_picture.specs.declared.extent.Extent.{Extent}
use Rattle.out_picture.specs.Columns.{AreColumns}
use Rattle.out_picture.specs.Flights.{is_flight}
use Rattle.out_picture.specs.Layout.{lane_y, window_of}
use Rattle.out_picture.specs.Pictures.{IsPicture, description, evidence_shapes, focus, heading_shapes, legend, page_width, run_shapes, widest, window}
use Rattle.out_picture.specs.Rooms.{names_room}
use Rattle.out_picture.specs.Shapes.{all_seen}
use Rattle.out_picture.specs.declared.evidence.Evidence.{Evidence}
use Rattle.out_picture.specs.declared.window.Window.{Window}
use Rattle.out_picture.proofs.FlightFacts.{flights_are}

module _ (c recorded : Computation) (columns : Place → ℕ) (messages : List (MatchedPlace × MatchedPlace))
    (names : List (List ℕ)) (title : List ℕ) (evidence : Evidence) (extent : Extent) (most last room : ℕ)
    (shown : Window)
    (same : recorded ≡ c) (most_is : most ≡ widest columns c) (last_is : last ≡ focus columns c evidence)
    (room_is : room ≡ names_room names) (shown_is : shown ≡ window_of extent most last room) where
  window_is : shown ≡ window columns c names evidence extent
  window_is =
      shown_is ∙ (ap (λ (n : ℕ). window_of extent n last room) most_is
      ∙ (ap (λ (n : ℕ). window_of extent (widest columns c) n room) last_is
      ∙ ap (λ (n : ℕ). window_of extent (widest columns c) (focus columns c evidence) n) room_is))

  pub is_picture : IsMessageList c (pairs_view messages) → AreColumns c columns → (drawing : Drawing)
      → all_seen drawing.shapes.items ≡ heading_shapes shown most title (legend evidence)
      ++ run_shapes shown columns (is_flight recorded messages) c (pairs_view messages) names evidence
      ++ evidence_shapes shown columns c evidence
      → drawing.width ≡ page_width shown title evidence → drawing.height ≡ lane_y (length c) - 30
      → string_bytes drawing.title ≡ title
      → string_bytes drawing.description ≡ description shown most c names evidence
      → IsPicture c (pairs_view messages) names title evidence extent drawing
  is_picture lawful are drawing shapes wide high titled described = record {
    columns = columns;
    are_columns = are;
    flights = is_flight c messages;
    are_flights = λ e is. flights_are c messages lawful e;
    shapes =
        shapes ∙ (ap (λ (n : ℕ). heading_shapes shown n title (legend evidence)
        ++ run_shapes shown columns (is_flight recorded messages) c (pairs_view messages) names evidence
        ++ evidence_shapes shown columns c evidence) most_is
        ∙ (ap (λ (r : Computation). heading_shapes shown (widest columns c) title (legend evidence)
        ++ run_shapes shown columns (is_flight r messages) c (pairs_view messages) names evidence
        ++ evidence_shapes shown columns c evidence) same
        ∙ ap (λ (w : Window). heading_shapes w (widest columns c) title (legend evidence)
        ++ run_shapes w columns (is_flight c messages) c (pairs_view messages) names evidence
        ++ evidence_shapes w columns c evidence) window_is));
    width = wide ∙ ap (λ (w : Window). page_width w title evidence) window_is;
    height = high;
    is_titled = titled;
    is_described =
        described ∙ (ap (λ (n : ℕ). description shown n c names evidence) most_is
        ∙ ap (λ (w : Window). description w (widest columns c) c names evidence) window_is);
  }
