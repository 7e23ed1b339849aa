-- The shapes of a run with a causal cycle show it.
use Rattle.std.proofs.Common.{◌≡◌, ℕ, ◌↔◌, Bool, true, IsTrue, List, [], ◌∷◌, ◌++◌, drop, length, map, filter, flat_map, refl, sym, ap, ◌∙◌, subst, arith}
use Rattle.std.specs.List.{AllZip}
use Rattle.std.proofs.lemmas.List.{append-nil}
use Rattle.std.proofs.lemmas.List.Concat.{flat_map-append}
use Rattle.def_model.specs.Events.{Computation, Place, IsEvent}
use Rattle.out_svg.specs.declared.class.Class.TheVariants as class
use Rattle.out_svg.specs.declared.drawing.Drawing.{Drawing}
use Rattle.out_svg.specs.declared.point.Point.{Point}
use Rattle.out_picture.specs.Cycles.{cycle_legend, cycle_shapes, event_in, is_in_cycle, marked_event, marked_events, marked_message, marked_messages}
use Rattle.out_picture.specs.Layout.{column_x, event_point, is_shown, lane_y}
use Rattle.out_picture.specs.Pictures.{IsInFlight, ends_shapes, event_shapes, flight_shapes, heading_shapes, lanes_shapes, messages_shapes, point, shortened, shown_events, widest}
use Rattle.out_picture.specs.Shapes.{Seen, SeenCircle, SeenLine, all_seen}
use Rattle.out_picture.specs.Shown.{IsArrow, IsGrid, IsLabel, IsName, ShowsRun, arrow, broken, dot, line, name, number, numbered_from, ring, step}
use Rattle.out_picture.specs.declared.evidence.Evidence.TheVariants.{Absent}
use Rattle.out_picture.specs.declared.window.Window.{Window}
use Rattle.out_picture.proofs.LanesNamed.{lanes_named, names_of_lanes}
use Rattle.out_picture.proofs.Gridded.{low_lane, near_head}
use Rattle.out_picture.proofs.RunShown.{arrows_of_messages, broken_of_flights, dots_of_events, head, lines_of_messages, no_ring, numbers_of_events}
use Rattle.out_picture.proofs.Selected.{either_part, join, no_ends, no_events, no_flights, no_lanes, no_messages, none_flat, one_each, zip_map}

module _ (window : Window) (columns : Place → ℕ) (c : Computation) (messages : List (Place × Place))
    (names : List (List ℕ)) (flights : Place → Bool) (cycle : List Place) (title : List ℕ) where
  abbrev stand : Place → Point
  stand e = event_point window columns e

  abbrev events : List Place
  events = shown_events window columns c

  no_marks : {A : Type 0} (s : Seen → List A) → ((from to : Point) → s (SeenLine class.Cut from to) ≡ [])
      → flat_map s (marked_messages window columns cycle messages) ≡ []
  no_marks s line = none_flat s (marked_message window columns cycle) (λ (send, receipt).
      either_part s (is_in_cycle cycle receipt) _ _ []
      (join (line (stand (event_in cycle send.process)) (stand send)) (join (line (stand send) (stand receipt)) refl))
      refl) messages

  no_rings : {A : Type 0} (s : Seen → List A) → ((p : Point) (r : ℕ) → s (SeenCircle class.Cut p r) ≡ [])
      → flat_map s (marked_events window columns cycle) ≡ []
  no_rings s circle = none_flat s (marked_event window columns) (λ e. join (circle (stand e) 12) refl) cycle

  rings_of_cycle : flat_map ring (marked_events window columns cycle)
      ≡ map (λ e. SeenCircle class.Cut (stand e) 12) cycle
  rings_of_cycle =
      one_each ring (marked_event window columns) (λ e. SeenCircle class.Cut (stand e) 12) (λ e. refl) cycle

  parts : {A : Type 0} (s : Seen → List A) (heading lanes marks rings arrows ends flown dots : List A)
      → flat_map s (heading_shapes window (widest columns c) title cycle_legend) ≡ heading
      → flat_map s (lanes_shapes window names) ≡ lanes
      → flat_map s (marked_messages window columns cycle messages) ≡ marks
      → flat_map s (marked_events window columns cycle) ≡ rings
      → flat_map s (messages_shapes window columns messages) ≡ arrows
      → flat_map s (ends_shapes window columns messages) ≡ ends
      → flat_map s (flat_map (flight_shapes window columns flights) events) ≡ flown
      → flat_map s (flat_map (event_shapes window columns Absent) events) ≡ dots
      → flat_map s (cycle_shapes columns flights c messages names title cycle window)
      ≡ heading ++ (lanes ++ marks ++ rings ++ arrows ++ ends ++ flown) ++ dots
  parts s heading lanes marks rings arrows ends flown dots h l m r a e b d =
      let hs = heading_shapes window (widest columns c) title cycle_legend in
      let ns = lanes_shapes window names in
      let ks = marked_messages window columns cycle messages in
      let rs = marked_events window columns cycle in
      let ms = messages_shapes window columns messages in
      let es = ends_shapes window columns messages in
      let bs = flat_map (flight_shapes window columns flights) events in
      let ds = flat_map (event_shapes window columns Absent) events in
      let two : flat_map s (ns ++ ks) ≡ lanes ++ marks = flat_map-append s ns ks ∙ join l m in
      let three : flat_map s (ns ++ ks ++ rs) ≡ lanes ++ marks ++ rings =
      flat_map-append s (ns ++ ks) rs ∙ join two r in
      let four : flat_map s (ns ++ ks ++ rs ++ ms) ≡ lanes ++ marks ++ rings ++ arrows =
      flat_map-append s (ns ++ ks ++ rs) ms ∙ join three a in
      let five : flat_map s (ns ++ ks ++ rs ++ ms ++ es) ≡ lanes ++ marks ++ rings ++ arrows ++ ends =
      flat_map-append s (ns ++ ks ++ rs ++ ms) es ∙ join four e in
      let six : flat_map s (ns ++ ks ++ rs ++ ms ++ es ++ bs) ≡ lanes ++ marks ++ rings ++ arrows ++ ends ++ flown =
      flat_map-append s (ns ++ ks ++ rs ++ ms ++ es) bs ∙ join five b in
      let seven : flat_map s (hs ++ (ns ++ ks ++ rs ++ ms ++ es ++ bs))
      ≡ heading ++ (lanes ++ marks ++ rings ++ arrows ++ ends ++ flown) =
      flat_map-append s hs (ns ++ ks ++ rs ++ ms ++ es ++ bs) ∙ join h six in
      flat_map-append s (hs ++ (ns ++ ks ++ rs ++ ms ++ es ++ bs)) ds ∙ join seven d

  pub cycle_shown : (drawing : Drawing)
      → all_seen drawing.shapes.items ≡ cycle_shapes columns flights c messages names title cycle window
      → ((e : Place) → IsEvent c e → IsTrue (flights e) ↔ IsInFlight c e)
      → IsGrid (is_shown window) (length c) drawing.width drawing.height (column_x window) lane_y
      → ShowsRun c messages names columns (is_shown window) (λ e. true) cycle [] drawing
  cycle_shown drawing are_shapes are_flights grid = record {
    x = column_x window;
    y = lane_y;
    grid = grid;
    labels =
        subst (AllZip (IsName lane_y) (numbered_from 0 names))
        (sym (ap (λ (labels : List (Point × ℕ × List ℕ)). drop 1 labels) (ap (flat_map name) are_shapes
        ∙ parts name ((point 24 38, 18, shortened 112 title) ∷ []) _ [] [] [] [] [] [] refl
        (names_of_lanes window names) (no_marks name (λ _ _. refl)) (no_rings name (λ _ _. refl))
        (no_messages name window columns messages (λ _ _. refl) (λ _ _. refl))
        (no_ends name window columns messages (λ _. refl))
        (no_flights name window columns flights events (λ _ _. refl))
        (no_events name window columns Absent events (λ _ _ _. refl) (λ _ _ _ _. refl)))
        ∙ (append-nil _ ∙ append-nil _ ∙ append-nil _ ∙ append-nil _ ∙ append-nil _ ∙ append-nil _)))
        (lanes_named window names);
    dots =
        ap (flat_map dot) are_shapes
        ∙ parts dot [] [] [] [] [] [] [] _ refl (no_lanes dot window columns names (λ _ _. refl) (λ _ _ _ _. refl))
        (no_marks dot (λ _ _. refl)) (no_rings dot (λ _ _. refl))
        (no_messages dot window columns messages (λ _ _. refl) (λ _ _. refl))
        (no_ends dot window columns messages (λ _. refl)) (no_flights dot window columns flights events (λ _ _. refl))
        (dots_of_events window columns Absent events);
    numbers =
        subst (AllZip (λ e label. IsLabel (stand e) e.number label) events)
        (sym (ap (flat_map number) are_shapes
        ∙ parts number [] [] [] [] [] [] [] _ refl (no_lanes number window columns names (λ _ _. refl)
        (λ _ _ _ _. refl)) (no_marks number (λ _ _. refl)) (no_rings number (λ _ _. refl))
        (no_messages number window columns messages (λ _ _. refl) (λ _ _. refl))
        (no_ends number window columns messages (λ _. refl))
        (no_flights number window columns flights events (λ _ _. refl))
        (numbers_of_events window columns Absent events)))
        (zip_map (λ e label. IsLabel (stand e) e.number label) _
        (λ e. ((omega arith, omega arith, omega arith, omega arith), omega arith, refl)) events);
    arrows =
        subst (AllZip (IsArrow stand) (filter (λ m. is_shown window (columns m.1)) messages))
        (sym (ap (flat_map arrow) are_shapes
        ∙ (parts arrow [] [] [] [] _ [] [] [] refl (no_lanes arrow window columns names (λ _ _. refl)
        (λ _ _ _ _. refl)) (no_marks arrow (λ _ _. refl)) (no_rings arrow (λ _ _. refl))
        (arrows_of_messages window columns messages) (no_ends arrow window columns messages (λ _. refl))
        (no_flights arrow window columns flights events (λ _ _. refl))
        (no_events arrow window columns Absent events (λ _ _ _. refl) (λ _ _ _ _. refl))
        ∙ (append-nil _ ∙ append-nil _ ∙ append-nil _))))
        (zip_map (IsArrow stand) (λ m. (stand m.0, head window columns m))
        (λ m. (refl, near_head _ _ (stand m.1) (low_lane m.1.process)))
        (filter (λ m. is_shown window (columns m.1)) messages));
    lines =
        ap (flat_map line) are_shapes
        ∙ (parts line [] [] [] [] _ [] [] [] refl (no_lanes line window columns names (λ _ _. refl)
        (λ _ _ _ _. refl)) (no_marks line (λ _ _. refl)) (no_rings line (λ _ _. refl))
        (lines_of_messages window columns messages) (no_ends line window columns messages (λ _. refl))
        (no_flights line window columns flights events (λ _ _. refl))
        (no_events line window columns Absent events (λ _ _ _. refl) (λ _ _ _ _. refl))
        ∙ (append-nil _ ∙ append-nil _ ∙ append-nil _));
    flights = flights;
    are_flights = are_flights;
    broken_arrows =
        ap (flat_map broken) are_shapes
        ∙ (parts broken [] [] [] [] [] [] _ [] refl (no_lanes broken window columns names (λ _ _. refl)
        (λ _ _ _ _. refl)) (no_marks broken (λ _ _. refl)) (no_rings broken (λ _ _. refl))
        (no_messages broken window columns messages (λ _ _. refl) (λ _ _. refl))
        (no_ends broken window columns messages (λ _. refl)) (broken_of_flights window columns flights events)
        (no_events broken window columns Absent events (λ _ _ _. refl) (λ _ _ _ _. refl)) ∙ append-nil _);
    rings =
        ap (flat_map ring) are_shapes
        ∙ (parts ring [] [] [] _ [] [] [] [] refl (no_lanes ring window columns names (λ _ _. refl)
        (λ _ _ _ _. refl)) (no_marks ring (λ _ _. refl)) rings_of_cycle
        (no_messages ring window columns messages (λ _ _. refl) (λ _ _. refl))
        (no_ends ring window columns messages (λ _. refl))
        (no_flights ring window columns flights events (λ _ _. refl))
        (no_events ring window columns Absent events (no_ring window columns) (λ _ _ _ _. refl))
        ∙ (append-nil _ ∙ append-nil _ ∙ append-nil _ ∙ append-nil _));
    steps_are =
        subst (AllZip (λ (s : ℕ × Place) label. IsLabel (stand s.1) s.0 label) []) (sym (ap (flat_map step) are_shapes
        ∙ parts step [] [] [] [] [] [] [] [] refl (no_lanes step window columns names (λ _ _. refl)
        (λ _ _ _ _. refl)) (no_marks step (λ _ _. refl)) (no_rings step (λ _ _. refl))
        (no_messages step window columns messages (λ _ _. refl) (λ _ _. refl))
        (no_ends step window columns messages (λ _. refl))
        (no_flights step window columns flights events (λ _ _. refl))
        (no_events step window columns Absent events (λ _ _ _. refl) (λ _ _ _ _. refl)))) tt;
  }
