-- The shapes of a run show it: what is selected of each part, and of all parts together.
use Rattle.std.proofs.Common.{◌≡◌, ℕ, ◌+◌, ◌-◌, ◌≤◌, ◌↔◌, Bool, true, false, IsTrue, List, [], ◌∷◌, ◌++◌, cond, drop, length, map, filter, flat_map, nat_le, nat_lt, not, ◌&&◌, slice_index, replicate, decimal, refl, sym, ap, ◌∙◌, subst, arith}
use Rattle.std.specs.List.{AllZip}
use Rattle.std.proofs.lemmas.List.{append-nil}
use Rattle.std.proofs.lemmas.List.Concat.{flat_map-append}
use Rattle.def_model.specs.Cuts.{one_more}
use Rattle.def_model.specs.Events.{Computation, Place, place, IsEvent}
use Rattle.out_svg.specs.declared.anchor.Anchor.{Anchor}
use Rattle.out_svg.specs.declared.class.Class.TheVariants as class
use Rattle.out_svg.specs.declared.drawing.Drawing.{Drawing}
use Rattle.out_svg.specs.declared.point.Point.{Point}
use Rattle.out_picture.specs.Layout.{column_x, event_point, is_shown, lane_y}
use Rattle.out_picture.specs.Pictures.{IsInFlight, ends_shapes, event_shapes, evidence_shapes, flight_shapes, cut_shapes, head_point, heading_shapes, is_past, lanes_shapes, message_shapes, messages_shapes, point, run_shapes, shortened, shown_events, step_shapes, step_size, steps_shapes, texts_view}
use Rattle.out_picture.specs.Shapes.{Seen, SeenArrow, SeenCircle, SeenLine, SeenPolyline, SeenText, all_seen}
use Rattle.out_picture.specs.Shown.{IsArrow, IsGrid, IsLabel, IsName, ShowsRun, added, arrow, broken, dot, line, name, number, numbered_from, ring, step, steps_of}
use Rattle.out_picture.specs.declared.evidence.Evidence.{Evidence}
use Rattle.out_picture.specs.declared.evidence.Evidence.TheVariants.{Absent, Cut, Observation}
use Rattle.out_picture.specs.declared.window.Window.{Window}
use Rattle.out_picture.proofs.LanesNamed.{lanes_named, names_of_lanes}
use Rattle.out_picture.proofs.Gridded.{low_lane, near_head}
use Rattle.out_picture.proofs.Selected.{join, no_cut, no_ends, no_events, no_flights, no_lanes, no_messages, no_steps, one_each, one_if, zip_map}

module _ (window : Window) (columns : Place → ℕ) where
  abbrev pub at : Place → Point
  at e = event_point window columns e

  -- ---- of events

  dot_of : (b : Bool) (p : Point) (r : ℕ)
      → dot (SeenCircle (cond b class.Past class.Next) p r) ≡ SeenCircle (cond b class.Past class.Next) p r ∷ []
  dot_of true p r = refl
  dot_of false p r = refl

  pub no_ring : (b : Bool) (p : Point) (r : ℕ) → ring (SeenCircle (cond b class.Past class.Next) p r) ≡ []
  no_ring true p r = refl
  no_ring false p r = refl

  pub dots_of_events : (evidence : Evidence) (events : List Place)
      → flat_map dot (flat_map (event_shapes window columns evidence) events)
      ≡ map (λ e. SeenCircle (cond (is_past evidence e) class.Past class.Next) (at e) 7) events
  dots_of_events evidence events =
      one_each dot (event_shapes window columns evidence)
      (λ e. SeenCircle (cond (is_past evidence e) class.Past class.Next) (at e) 7)
      (λ e. join (dot_of (is_past evidence e) (at e) 7) refl) events

  pub numbers_of_events : (evidence : Evidence) (events : List Place)
      → flat_map number (flat_map (event_shapes window columns evidence) events)
      ≡ map (λ e. (point (at e).x (lane_y e.process + 30), 12, decimal e.number)) events
  numbers_of_events evidence events =
      one_each number (event_shapes window columns evidence)
      (λ e. (point (at e).x (lane_y e.process + 30), 12, decimal e.number)) (λ e. refl) events

  pub broken_of_flights : (flights : Place → Bool) (events : List Place)
      → flat_map broken (flat_map (flight_shapes window columns flights) events) ≡ map at (filter flights events)
  broken_of_flights flights events =
      one_if broken flights (λ e. SeenArrow class.Flight (at e) (point ((at e).x + 28) (lane_y e.process + 40)) ∷ [])
      (λ e. []) at (λ e. refl) (λ e. refl) events

  -- ---- of messages

  abbrev pub head : Place × Place → Point
  head m =
      head_point (nat_lt m.0.process m.1.process) (nat_lt (at m.1).x (at m.0).x) (at m.1)

  abbrev headless : Place × Place → List Seen
  headless m = cond (is_shown window (columns m.0)) (SeenLine class.Message (at m.0) (at m.1) ∷ []) []

  no_arrow : (b : Bool) (m : Place × Place)
      → flat_map arrow (cond b (SeenLine class.Message (at m.0) (at m.1) ∷ []) []) ≡ []
  no_arrow true m = refl
  no_arrow false m = refl

  pub arrows_of_messages : (messages : List (Place × Place))
      → flat_map arrow (messages_shapes window columns messages)
      ≡ map (λ m. (at m.0, head m)) (filter (λ m. is_shown window (columns m.1)) messages)
  arrows_of_messages messages =
      one_if arrow (λ (m : Place × Place). is_shown window (columns m.1))
      (λ m. SeenArrow class.Message (at m.0) (head m) ∷ []) headless (λ m. (at m.0, head m)) (λ m. refl)
      (λ m. no_arrow (is_shown window (columns m.0)) m) messages

  line_of : (receipt send : Bool) (m : Place × Place)
      → flat_map line (cond receipt (SeenArrow class.Message (at m.0) (head m) ∷ [])
      (cond send (SeenLine class.Message (at m.0) (at m.1) ∷ []) []))
      ≡ flat_map line (cond (not receipt && send) (SeenLine class.Message (at m.0) (at m.1) ∷ []) [])
  line_of true send m = refl
  line_of false true m = refl
  line_of false false m = refl

  pub lines_of_messages : (messages : List (Place × Place)) → flat_map line (messages_shapes window columns messages)
      ≡ map (λ m. at m.0) (filter (λ m. not (is_shown window (columns m.1)) && is_shown window (columns m.0)) messages)
  lines_of_messages messages =
      same messages
      ∙ one_if line (λ (m : Place × Place). not (is_shown window (columns m.1)) && is_shown window (columns m.0))
      (λ m. SeenLine class.Message (at m.0) (at m.1) ∷ []) (λ m. []) (λ m. at m.0) (λ m. refl) (λ m. refl) messages
    where
      kept : Place × Place → List Seen
      kept m = cond (not (is_shown window (columns m.1)) && is_shown window (columns m.0))
          (SeenLine class.Message (at m.0) (at m.1) ∷ []) []

      same : (messages : List (Place × Place)) → flat_map line (messages_shapes window columns messages)
          ≡ flat_map line (flat_map kept messages)
      same [] = refl
      same (m ∷ rest) =
          flat_map-append line (message_shapes window columns m) (messages_shapes window columns rest)
          ∙ (join (line_of (is_shown window (columns m.1)) (is_shown window (columns m.0)) m) (same rest)
          ∙ sym (flat_map-append line (kept m) (flat_map kept rest)))

  -- ---- of steps

  abbrev above : ℕ × Place → Point × ℕ × List ℕ
  above s = (point (at s.1).x (lane_y s.1.process - 20), step_size s.0, decimal s.0)

  one_step : (b : Bool) (s : ℕ × Place) (shape : Seen) (old : List (Point × ℕ × List ℕ)) (rest : List (ℕ × Place))
      → step shape ≡ above s ∷ [] → old ≡ map above rest
      → flat_map step (cond b (shape ∷ []) []) ++ old ≡ map above (cond b (s ∷ rest) rest)
  one_step true s shape old rest is are = join (join is refl) are
  one_step false s shape old rest is are = are

  pub steps_of_path : (path cut : List ℕ) (n : ℕ) → flat_map step (steps_shapes window columns cut n path)
      ≡ map above (filter (λ s. is_shown window (columns s.1)) (numbered_from n (added cut path)))
  steps_of_path [] cut n = refl
  steps_of_path (p ∷ path) cut n =
      flat_map-append step (step_shapes window columns n (place p (slice_index cut p + 1)))
      (steps_shapes window columns (one_more cut p) (n + 1) path)
      ∙ one_step (is_shown window (columns (place p (slice_index cut p + 1)))) (n, place p (slice_index cut p + 1))
      _ _ _ refl (steps_of_path path (one_more cut p) (n + 1))

  pub steps_of_evidence : (c : Computation) (evidence : Evidence)
      → flat_map step (evidence_shapes window columns c evidence)
      ≡ map above (filter (λ s. is_shown window (columns s.1)) (numbered_from 1 (steps_of c evidence)))
  steps_of_evidence c Absent = refl
  steps_of_evidence c (Cut counts values path) =
      flat_map-append step (cut_shapes window columns (length c) counts.items (texts_view values.items))
      (steps_shapes window columns (replicate (length c) 0) 1 path.items)
      ∙ join (no_cut step window columns (λ _. refl) (λ _ _ _ _. refl) (length c) counts.items
      (texts_view values.items)) (steps_of_path path.items (replicate (length c) 0) 1)
  steps_of_evidence c (Observation path) = steps_of_path path.items (replicate (length c) 0) 1

  pub none_of_evidence : {A : Type 0} (s : Seen → List A) (c : Computation) (evidence : Evidence)
      → ((points : List Point) → s (SeenPolyline class.Cut points) ≡ [])
      → ((p : Point) (a : Anchor) (n : ℕ) (t : List ℕ) → s (SeenText class.Value p a n t) ≡ [])
      → ((p : Point) (a : Anchor) (n : ℕ) (t : List ℕ) → s (SeenText class.Step p a n t) ≡ [])
      → flat_map s (evidence_shapes window columns c evidence) ≡ []
  none_of_evidence s c Absent lines values steps = refl
  none_of_evidence s c (Cut counts values path) lines texts steps =
      flat_map-append s (cut_shapes window columns (length c) counts.items (texts_view values.items))
      (steps_shapes window columns (replicate (length c) 0) 1 path.items)
      ∙ join (no_cut s window columns lines texts (length c) counts.items (texts_view values.items))
      (no_steps s window columns steps path.items (replicate (length c) 0) 1)
  none_of_evidence s c (Observation path) lines texts steps =
      no_steps s window columns steps path.items (replicate (length c) 0) 1

  readable : (first second : Bool) → 10 ≤ cond first 13 (cond second 11 10)
  readable true second = omega arith
  readable false true = omega arith
  readable false false = omega arith

  -- ---- all parts of a run

  module _ (c : Computation) (messages : List (Place × Place)) (names : List (List ℕ)) (flights : Place → Bool)
      (evidence : Evidence) (most : ℕ) (title legend : List ℕ) where
    abbrev events : List Place
    events = shown_events window columns c

    abbrev shapes : List Seen
    shapes = heading_shapes window most title legend ++ run_shapes window columns flights c messages names evidence
        ++ evidence_shapes window columns c evidence

    parts : {A : Type 0} (s : Seen → List A) (heading lanes arrows ends flown dots steps : List A)
        → flat_map s (heading_shapes window most title legend) ≡ heading
        → flat_map s (lanes_shapes window names) ≡ lanes
        → flat_map s (messages_shapes window columns messages) ≡ arrows
        → flat_map s (ends_shapes window columns messages) ≡ ends
        → flat_map s (flat_map (flight_shapes window columns flights) events) ≡ flown
        → flat_map s (flat_map (event_shapes window columns evidence) events) ≡ dots
        → flat_map s (evidence_shapes window columns c evidence) ≡ steps
        → flat_map s shapes ≡ heading ++ (lanes ++ arrows ++ ends ++ flown ++ dots) ++ steps
    parts s heading lanes arrows ends flown dots steps h l a e b d v =
        let hs = heading_shapes window most title legend in
        let ns = lanes_shapes window names in
        let ms = messages_shapes window columns messages in
        let es = ends_shapes window columns messages in
        let bs = flat_map (flight_shapes window columns flights) events in
        let ds = flat_map (event_shapes window columns evidence) events in
        let vs = evidence_shapes window columns c evidence in
        let two : flat_map s (ns ++ ms) ≡ lanes ++ arrows = flat_map-append s ns ms ∙ join l a in
        let three : flat_map s (ns ++ ms ++ es) ≡ lanes ++ arrows ++ ends =
        flat_map-append s (ns ++ ms) es ∙ join two e in
        let four : flat_map s (ns ++ ms ++ es ++ bs) ≡ lanes ++ arrows ++ ends ++ flown =
        flat_map-append s (ns ++ ms ++ es) bs ∙ join three b in
        let five : flat_map s (ns ++ ms ++ es ++ bs ++ ds) ≡ lanes ++ arrows ++ ends ++ flown ++ dots =
        flat_map-append s (ns ++ ms ++ es ++ bs) ds ∙ join four d in
        let six : flat_map s (hs ++ (ns ++ ms ++ es ++ bs ++ ds))
        ≡ heading ++ (lanes ++ arrows ++ ends ++ flown ++ dots) =
        flat_map-append s hs (ns ++ ms ++ es ++ bs ++ ds) ∙ join h five in
        flat_map-append s (hs ++ (ns ++ ms ++ es ++ bs ++ ds)) vs ∙ join six v

    pub shown : (drawing : Drawing) → all_seen drawing.shapes.items ≡ shapes
        → ((e : Place) → IsEvent c e → IsTrue (flights e) ↔ IsInFlight c e)
        → IsGrid (is_shown window) (length c) drawing.width drawing.height (column_x window) lane_y
        → ShowsRun c messages names columns (is_shown window) (is_past evidence) [] (steps_of c evidence) drawing
    shown drawing are_shapes are_flights grid = record {
      x = column_x window;
      y = lane_y;
      grid = grid;
      labels =
          subst (AllZip (IsName lane_y) (numbered_from 0 names))
          (sym (ap (λ (labels : List (Point × ℕ × List ℕ)). drop 1 labels) (ap (flat_map name) are_shapes
          ∙ parts name ((point 24 38, 18, shortened 112 title) ∷ []) _ [] [] [] [] [] refl (names_of_lanes window names)
          (no_messages name window columns messages (λ _ _. refl) (λ _ _. refl))
          (no_ends name window columns messages (λ _. refl))
          (no_flights name window columns flights events (λ _ _. refl))
          (no_events name window columns evidence events (λ _ _ _. refl) (λ _ _ _ _. refl))
          (none_of_evidence name c evidence (λ _. refl) (λ _ _ _ _. refl) (λ _ _ _ _. refl)))
          ∙ (append-nil _ ∙ append-nil _ ∙ append-nil _ ∙ append-nil _ ∙ append-nil _)))
          (lanes_named window names);
      dots =
          ap (flat_map dot) are_shapes
          ∙ (parts dot [] [] [] [] [] _ [] refl (no_lanes dot window columns names (λ _ _. refl) (λ _ _ _ _. refl))
          (no_messages dot window columns messages (λ _ _. refl) (λ _ _. refl))
          (no_ends dot window columns messages (λ _. refl)) (no_flights dot window columns flights events (λ _ _. refl))
          (dots_of_events evidence events) (none_of_evidence dot c evidence (λ _. refl) (λ _ _ _ _. refl)
          (λ _ _ _ _. refl)) ∙ append-nil _);
      numbers =
          subst (AllZip (λ e label. IsLabel (at e) e.number label) events)
          (sym (ap (flat_map number) are_shapes
          ∙ (parts number [] [] [] [] [] _ [] refl (no_lanes number window columns names (λ _ _. refl)
          (λ _ _ _ _. refl)) (no_messages number window columns messages (λ _ _. refl) (λ _ _. refl))
          (no_ends number window columns messages (λ _. refl))
          (no_flights number window columns flights events (λ _ _. refl))
          (numbers_of_events evidence events) (none_of_evidence number c evidence (λ _. refl) (λ _ _ _ _. refl)
          (λ _ _ _ _. refl)) ∙ append-nil _)))
          (zip_map (λ e label. IsLabel (at e) e.number label) _
          (λ e. ((omega arith, omega arith, omega arith, omega arith), omega arith, refl)) events);
      arrows =
          subst (AllZip (IsArrow at) (filter (λ m. is_shown window (columns m.1)) messages))
          (sym (ap (flat_map arrow) are_shapes
          ∙ (parts arrow [] [] _ [] [] [] [] refl (no_lanes arrow window columns names (λ _ _. refl) (λ _ _ _ _. refl))
          (arrows_of_messages messages) (no_ends arrow window columns messages (λ _. refl))
          (no_flights arrow window columns flights events (λ _ _. refl))
          (no_events arrow window columns evidence events (λ _ _ _. refl) (λ _ _ _ _. refl))
          (none_of_evidence arrow c evidence (λ _. refl) (λ _ _ _ _. refl) (λ _ _ _ _. refl))
          ∙ (append-nil _ ∙ append-nil _ ∙ append-nil _ ∙ append-nil _))))
          (zip_map (IsArrow at) (λ m. (at m.0, head m)) (λ m. (refl, near_head _ _ (at m.1) (low_lane m.1.process)))
          (filter (λ m. is_shown window (columns m.1)) messages));
      lines =
          ap (flat_map line) are_shapes
          ∙ (parts line [] [] _ [] [] [] [] refl (no_lanes line window columns names (λ _ _. refl) (λ _ _ _ _. refl))
          (lines_of_messages messages) (no_ends line window columns messages (λ _. refl))
          (no_flights line window columns flights events (λ _ _. refl))
          (no_events line window columns evidence events (λ _ _ _. refl) (λ _ _ _ _. refl))
          (none_of_evidence line c evidence (λ _. refl) (λ _ _ _ _. refl) (λ _ _ _ _. refl))
          ∙ (append-nil _ ∙ append-nil _ ∙ append-nil _ ∙ append-nil _));
      flights = flights;
      are_flights = are_flights;
      broken_arrows =
          ap (flat_map broken) are_shapes
          ∙ (parts broken [] [] [] [] _ [] [] refl (no_lanes broken window columns names (λ _ _. refl)
          (λ _ _ _ _. refl)) (no_messages broken window columns messages (λ _ _. refl) (λ _ _. refl))
          (no_ends broken window columns messages (λ _. refl)) (broken_of_flights flights events)
          (no_events broken window columns evidence events (λ _ _ _. refl) (λ _ _ _ _. refl))
          (none_of_evidence broken c evidence (λ _. refl) (λ _ _ _ _. refl) (λ _ _ _ _. refl))
          ∙ (append-nil _ ∙ append-nil _));
      rings =
          ap (flat_map ring) are_shapes
          ∙ parts ring [] [] [] [] [] [] [] refl (no_lanes ring window columns names (λ _ _. refl) (λ _ _ _ _. refl))
          (no_messages ring window columns messages (λ _ _. refl) (λ _ _. refl))
          (no_ends ring window columns messages (λ _. refl))
          (no_flights ring window columns flights events (λ _ _. refl))
          (no_events ring window columns evidence events no_ring (λ _ _ _ _. refl))
          (none_of_evidence ring c evidence (λ _. refl) (λ _ _ _ _. refl) (λ _ _ _ _. refl));
      steps_are =
          subst (AllZip (λ s label. IsLabel (at s.1) s.0 label) (filter (λ s. is_shown window (columns s.1))
          (numbered_from 1 (steps_of c evidence))))
          (sym (ap (flat_map step) are_shapes
          ∙ parts step [] [] [] [] [] [] _ refl (no_lanes step window columns names (λ _ _. refl)
          (λ _ _ _ _. refl)) (no_messages step window columns messages (λ _ _. refl) (λ _ _. refl))
          (no_ends step window columns messages (λ _. refl))
          (no_flights step window columns flights events (λ _ _. refl))
          (no_events step window columns evidence events (λ _ _ _. refl) (λ _ _ _ _. refl))
          (steps_of_evidence c evidence)))
          (zip_map (λ s label. IsLabel (at s.1) s.0 label) above
          (λ s. (
            (omega arith, omega arith, omega arith, omega arith),
            readable (nat_le s.0 9999) (nat_le s.0 99999),
            refl,
          ))
          (filter (λ s. is_shown window (columns s.1)) (numbered_from 1 (steps_of c evidence))));
    }
