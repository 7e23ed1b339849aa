-- Labels over the shapes of a picture change nothing of what it shows.
use Rattle.std.proofs.Common.{◌≡◌, ℕ, ◌≤◌, ◌++◌, Bool, List, [], drop, filter, flat_map, map, refl, sym, ap, ◌∙◌, subst}
use Rattle.std.specs.List.{AllZip}
use Rattle.std.proofs.lemmas.List.{append-nil}
use Rattle.std.proofs.lemmas.List.Concat.{flat_map-append}
use Rattle.def_model.specs.Events.{Computation, Place}
use Rattle.out_svg.specs.declared.anchor.Anchor.{Anchor}
use Rattle.out_svg.specs.declared.class.Class.TheVariants as class
use Rattle.out_svg.specs.declared.drawing.Drawing.{Drawing}
use Rattle.out_svg.specs.declared.point.Point.{Point}
use Rattle.out_picture.specs.Notes.{AddsNotes, label_shapes}
use Rattle.out_picture.specs.Shapes.{Seen, SeenText, all_seen}
use Rattle.out_picture.specs.Shown.{IsArrow, IsGrid, IsLabel, IsName, ShowsCycle, ShowsPicture, ShowsRun, arrow, broken, dot, events_in, line, name, number, numbered_from, ring, stands, step}
use Rattle.out_picture.specs.declared.evidence.Evidence.{Evidence}
use Rattle.out_picture.specs.declared.extent.Extent.{Extent}
use Rattle.out_picture.proofs.Selected.{join, none_flat}

module _ (is_noted : Bool) (plain drawing : Drawing) (adds : AddsNotes is_noted plain drawing) where
  -- what selects no remark selects the same of both drawings
  same : {A : Type 0} (s : Seen → List A)
      → ((at : Point) (anchor : Anchor) (size : ℕ) (text : List ℕ) → s (SeenText class.Note at anchor size text) ≡ [])
      → flat_map s (all_seen plain.shapes.items) ≡ flat_map s (all_seen drawing.shapes.items)
  same s none =
      sym (ap (flat_map s) adds.shapes
      ∙ (flat_map-append s (all_seen plain.shapes.items) (flat_map label_shapes adds.labels)
      ∙ (ap (λ rest. flat_map s (all_seen plain.shapes.items) ++ rest)
      (none_flat s label_shapes (λ label. join (none label.at _ 10 _) refl) adds.labels)
      ∙ append-nil (flat_map s (all_seen plain.shapes.items)))))

  module _ (c : Computation) (messages : List (Place × Place)) (names : List (List ℕ)) where
    run_noted : (columns : Place → ℕ) (is_column : ℕ → Bool) (is_filled : Place → Bool) (ringed steps : List Place)
        → ShowsRun c messages names columns is_column is_filled ringed steps plain
        → ShowsRun c messages names columns is_column is_filled ringed steps drawing
    run_noted columns is_column is_filled ringed steps is = record {
      x = is.x;
      y = is.y;
      grid = record {
        rightwards = is.grid.rightwards;
        downwards = is.grid.downwards;
        wide = λ m shown. subst (λ (width : ℕ). is.x m ≤ width) (sym adds.width) (is.grid.wide m shown);
        high = λ p lt. subst (λ (height : ℕ). is.y p ≤ height) (sym adds.height) (is.grid.high p lt);
      };
      labels =
          subst (λ found. AllZip (IsName is.y) (numbered_from 0 names) (drop 1 found)) (same name (λ _ _ _ _. refl))
          is.labels;
      dots = sym (same dot (λ _ _ _ _. refl)) ∙ is.dots;
      numbers =
          subst (AllZip (λ e label. IsLabel (stands is.x is.y columns e) e.number label)
          (events_in is_column columns c)) (same number (λ _ _ _ _. refl)) is.numbers;
      arrows =
          subst (AllZip (IsArrow (stands is.x is.y columns)) (filter (λ m. is_column (columns m.1)) messages))
          (same arrow (λ _ _ _ _. refl)) is.arrows;
      lines = sym (same line (λ _ _ _ _. refl)) ∙ is.lines;
      flights = is.flights;
      are_flights = is.are_flights;
      broken_arrows = sym (same broken (λ _ _ _ _. refl)) ∙ is.broken_arrows;
      rings = sym (same ring (λ _ _ _ _. refl)) ∙ is.rings;
      steps_are =
          subst (AllZip (λ s label. IsLabel (stands is.x is.y columns s.1) s.0 label)
          (filter (λ s. is_column (columns s.1)) (numbered_from 1 steps)))
          (same step (λ _ _ _ _. refl)) is.steps_are;
    }

    pub noted_picture : (evidence : Evidence) (extent : Extent)
        → ShowsPicture c messages names evidence extent plain → ShowsPicture c messages names evidence extent drawing
    noted_picture evidence extent is = record {
      columns = is.columns;
      are_columns = is.are_columns;
      shows = run_noted is.columns _ _ [] _ is.shows;
    }

    pub noted_cycle : (cycle : List Place) (extent : Extent)
        → ShowsCycle c messages names cycle extent plain → ShowsCycle c messages names cycle extent drawing
    noted_cycle cycle extent is = record {
      columns = is.columns;
      are_columns = is.are_columns;
      shows = run_noted is.columns _ _ cycle [] is.shows;
    }
