-- The table of columns of a run with a causal cycle, and the picture that is drawn by it.
use Rattle.std.proofs.Common.{◌≡◌, ℕ, zero, suc, ◌+◌, ◌-◌, ◌<◌, ◌≤◌, max, List, [], ◌∷◌, ◌++◌, length, get_or, refl, sym, ap, ◌∙◌, inl, inr, ◌⊎◌, arith, length-append}
use Rattle.std.specs.Prelude.{Vec, flat_map}
use Rattle.std.specs.Global.{Global}
use Rattle.std.specs.String.{string_bytes}
use Rattle.std.proofs.lemmas.Bool.{cases_lt}
use Rattle.std.proofs.lemmas.List.{get_or_append_left, get_or-append-add}
use Rattle.def_model.specs.Events.{Computation, Place, place, event_count}
use Rattle.def_model.specs.Messages.{IsMessageList}
use Rattle.def_model.proofs.Consistency.{process_in_range}
use Rattle.pd_match.specs.Views.{pairs_view}
use Rattle.pd_match.specs.declared.place.Place.{Place as MatchedPlace}
use Rattle.out_svg.specs.declared.drawing.Drawing.{Drawing}
use Rattle.out_picture.specs.declared.extent.Extent.{Extent}
use Rattle.out_picture.specs.CycleTables.{IsCycleTable}
use Rattle.out_picture.specs.Cycles.{AreCycleColumns, IsCyclePicture, below_shapes, cycle_description, cycle_focus, cycle_legend, cycle_row, cycle_window, kept_column, shift}
use Rattle.out_picture.specs.Flights.{is_flight}
use Rattle.out_picture.specs.Layout.{greatest_column, lane_y, max_upto, upto, window_of}
use Rattle.out_picture.specs.Pictures.{event_shapes, heading_shapes, page_width, shown_events, widest}
use Rattle.out_picture.specs.Rooms.{names_room}
use Rattle.out_picture.specs.Shapes.{all_seen}
use Rattle.out_picture.specs.Tables.{column_at, row_of}
use Rattle.out_picture.specs.declared.evidence.Evidence.TheVariants.{Absent}
use Rattle.out_picture.specs.declared.window.Window.{Window}
use Rattle.out_picture.proofs.FlightFacts.{flights_are}

-- ---- a row

length_upto : (f : ℕ → ℕ) (n : ℕ) → length (upto (λ k. f k ∷ []) n) ≡ n
length_upto f zero = refl
length_upto f (suc n) =
    let more : length (upto (λ k. f k ∷ []) n ++ (f n ∷ [])) ≡ length (upto (λ k. f k ∷ []) n) + 1 =
    length-append (upto (λ k. f k ∷ []) n) (f n ∷ []) in
    let before : length (upto (λ k. f k ∷ []) n) ≡ n = length_upto f n in
    omega arith

upto_at : (f : ℕ → ℕ) (n m : ℕ) → m < n → get_or (upto (λ k. f k ∷ []) n) m 0 ≡ f m
upto_at f zero m lt = absurd (omega arith)
upto_at f (suc n) m lt = go (upto_at f n m) (cases_lt m n)
  where
    go : (m < n → get_or (upto (λ k. f k ∷ []) n) m 0 ≡ f m) → (m < n) ⊎ (n ≤ m)
        → get_or (upto (λ k. f k ∷ []) n ++ (f n ∷ [])) m 0 ≡ f m
    go before (inl below) =
        let long : length (upto (λ k. f k ∷ []) n) ≡ n = length_upto f n in
        get_or_append_left (upto (λ k. f k ∷ []) n) (f n ∷ []) 0 m (omega arith) ∙ before below
    go before (inr past) =
        let same : m ≡ n = omega arith in
        let at : m ≡ length (upto (λ k. f k ∷ []) n) + 0 = let long : length (upto (λ k. f k ∷ []) n) ≡ n =
        length_upto f n in omega arith in
        ap (λ (k : ℕ). get_or (upto (λ k. f k ∷ []) n ++ (f n ∷ [])) k 0) at
        ∙ (get_or-append-add (upto (λ k. f k ∷ []) n) (f n ∷ []) 0 0 ∙ ap f (sym same))

row_at : (move count n : ℕ) → 1 ≤ n → n ≤ count → get_or (cycle_row move count) n 0 ≡ kept_column (n + move)
row_at move count zero some fits = absurd (omega arith)
row_at move count (suc m) some fits =
    let same : m + 1 + move ≡ suc m + move = omega arith in
    upto_at (λ k. kept_column (k + 1 + move)) count m (omega arith) ∙ ap kept_column same

length_row : (move count : ℕ) → length (cycle_row move count) - 1 ≡ count
length_row move count =
    let long : length (upto (λ n. kept_column (n + 1 + move) ∷ []) count) ≡ count =
    length_upto (λ n. kept_column (n + 1 + move)) count in
    omega arith

-- ---- the table

max_same : (f g : ℕ → ℕ) (n : ℕ) → ((p : ℕ) → p < n → f p ≡ g p) → max_upto f n ≡ max_upto g n
max_same f g zero same = refl
max_same f g (suc n) same =
    ap (λ (most : ℕ). max most (f n)) (max_same f g n (λ p lt. same p (omega arith)))
    ∙ ap (λ (last : ℕ). max (max_upto g n) last) (same n (omega arith))

module _ (c : Computation) (cycle : List Place) (rows : List (Vec ℕ Global)) (is : IsCycleTable c cycle rows) where
  pub columns_are : AreCycleColumns c cycle (column_at rows)
  columns_are e event =
      ap (λ (row : List ℕ). get_or row e.number 0) (is.rows_are e.process (process_in_range c e event))
      ∙ row_at (shift cycle e.process) (event_count c e.process) e.number event.0 event.1

  pub widest_is : greatest_column (column_at rows) (λ p. length (row_of rows p) - 1) (length rows)
      ≡ widest (column_at rows) c
  widest_is =
      ap (λ (n : ℕ). greatest_column (column_at rows) (λ p. length (row_of rows p) - 1) n) is.one_each
      ∙ max_same (λ p. column_at rows (place p (length (row_of rows p) - 1)))
      (λ p. column_at rows (place p (event_count c p))) (length c)
      (λ p lt. ap (λ (n : ℕ). column_at rows (place p n)) (ap (λ (row : List ℕ). length row - 1) (is.rows_are p lt)
      ∙ length_row (shift cycle p) (event_count c p)))

-- ---- the picture

module _ (c : Computation) (columns : Place → ℕ) (messages : List (MatchedPlace × MatchedPlace))
    (names : List (List ℕ)) (title : List ℕ) (cycle : List Place) (extent : Extent) (most last room : ℕ)
    (shown : Window)
    (most_is : most ≡ widest columns c) (last_is : last ≡ kept_column (cycle_focus cycle))
    (room_is : room ≡ names_room names) (shown_is : shown ≡ window_of extent most last room) where
  window_is : shown ≡ cycle_window columns c names cycle extent
  window_is =
      shown_is ∙ (ap (λ (n : ℕ). window_of extent n last room) most_is
      ∙ (ap (λ (n : ℕ). window_of extent (widest columns c) n room) last_is
      ∙ ap (λ (n : ℕ). window_of extent (widest columns c) (kept_column (cycle_focus cycle)) n) room_is))

  pub is_cycle_picture : IsMessageList c (pairs_view messages) → AreCycleColumns c cycle columns → (drawing : Drawing)
      → all_seen drawing.shapes.items ≡ heading_shapes shown most title cycle_legend
      ++ below_shapes shown columns (is_flight c messages) c (pairs_view messages) names cycle
      ++ flat_map (event_shapes shown columns Absent) (shown_events shown columns c)
      → drawing.width ≡ page_width shown title Absent → drawing.height ≡ lane_y (length c) - 30
      → string_bytes drawing.title ≡ title
      → string_bytes drawing.description ≡ cycle_description shown most
      → IsCyclePicture c (pairs_view messages) names title cycle extent drawing
  is_cycle_picture lawful are drawing shapes wide high titled described = record {
    columns = columns;
    are_columns = are;
    flights = is_flight c messages;
    are_flights = λ e is. flights_are c messages lawful e;
    shapes =
        shapes ∙ (ap (λ (n : ℕ). heading_shapes shown n title cycle_legend
        ++ below_shapes shown columns (is_flight c messages) c (pairs_view messages) names cycle
        ++ flat_map (event_shapes shown columns Absent) (shown_events shown columns c)) most_is
        ∙ ap (λ (w : Window). heading_shapes w (widest columns c) title cycle_legend
        ++ below_shapes w columns (is_flight c messages) c (pairs_view messages) names cycle
        ++ flat_map (event_shapes w columns Absent) (shown_events w columns c)) window_is);
    width = wide ∙ ap (λ (w : Window). page_width w title Absent) window_is;
    height = high;
    is_titled = titled;
    is_described =
        described ∙ (ap (λ (n : ℕ). cycle_description shown n) most_is
        ∙ ap (λ (w : Window). cycle_description w (widest columns c)) window_is);
  }
