-- A picture shows its run, its evidence and its cycle.
use Rattle.std.proofs.Common.{ℕ, ◌≤◌, List, [], length, true, subst}
use Rattle.def_format.specs.Limits.{process_limit}
use Rattle.def_model.specs.Events.{Computation, Place}
use Rattle.out_svg.specs.declared.drawing.Drawing.{Drawing}
use Rattle.out_picture.specs.Cycles.{IsCyclePicture, cycle_focus, cycle_window, kept_column}
use Rattle.out_picture.specs.Pictures.{IsPicture, focus, is_past, legend, widest, window}
use Rattle.out_picture.specs.Rooms.{names_room}
use Rattle.out_picture.specs.Shown.{ShowsCycle, ShowsPicture, ShowsRun, steps_of}
use Rattle.out_picture.specs.declared.evidence.Evidence.{Evidence}
use Rattle.out_picture.specs.declared.evidence.Evidence.TheVariants.{Absent}
use Rattle.out_picture.specs.declared.extent.Extent.{Extent}
use Rattle.out_picture.proofs.ColumnsAsked.{columns_asked}
use Rattle.out_picture.proofs.CycleShown.{cycle_shown}
use Rattle.out_picture.proofs.Gridded.{grid_is, within_page}
use Rattle.out_picture.proofs.RunShown.{shown}

module _ (c : Computation) (messages : List (Place × Place)) (names : List (List ℕ)) (title : List ℕ)
    (extent : Extent) (drawing : Drawing) (few : length c ≤ process_limit) where
  pub picture_shows : (evidence : Evidence) → IsPicture c messages names title evidence extent drawing
      → ShowsPicture c messages names evidence extent drawing
  picture_shows evidence is =
      let shown_window = window is.columns c names evidence extent in
      record {
        columns = is.columns;
        are_columns = is.are_columns;
        shows = subst (λ is_column. ShowsRun c messages names is.columns is_column (is_past evidence) []
            (steps_of c evidence) drawing)
            (columns_asked extent (widest is.columns c) (focus is.columns c evidence) (names_room names))
            (shown shown_window is.columns c messages names is.flights evidence (widest is.columns c) title
            (legend evidence) drawing is.shapes is.are_flights
            (grid_is shown_window (length c) drawing.width drawing.height few
            (within_page shown_window title evidence drawing.width is.width) is.height));
      }

  pub cycle_shows : (cycle : List Place) → IsCyclePicture c messages names title cycle extent drawing
      → ShowsCycle c messages names cycle extent drawing
  cycle_shows cycle is =
      let shown_window = cycle_window is.columns c names cycle extent in
      record {
        columns = is.columns;
        are_columns = is.are_columns;
        shows = subst (λ is_column. ShowsRun c messages names is.columns is_column (λ e. true) cycle [] drawing)
            (columns_asked extent (widest is.columns c) (kept_column (cycle_focus cycle)) (names_room names))
            (cycle_shown shown_window is.columns c messages names is.flights cycle title drawing is.shapes
            is.are_flights (grid_is shown_window (length c) drawing.width drawing.height few
            (within_page shown_window title Absent drawing.width is.width) is.height));
      }
