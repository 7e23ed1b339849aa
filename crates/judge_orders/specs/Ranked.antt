-- How many kept events are looked up.
use Rattle.std.specs.Prelude.{◌≡◌, ℕ, ◌<◌, ◌≤◌, List, [], ◌++◌, flat_map, length, slice_index, slice_index_or}
use Rattle.std.specs.List.{AllZip}
use Rattle.def_model.specs.Events.{Computation, Place, event_count, place}
use Rattle.def_model.specs.Order.{IsClock}
use Rattle.def_orders.specs.Orders.{count_up_to}

-- The first numbers, this many, are below n, and no other is.
pub record IsCountBelow (numbers : List ℕ) (n count : ℕ) : Type 0 where
  pub there : count ≤ length numbers
  pub small : (k : ℕ) → k < count → slice_index numbers k < n
  pub great : (k : ℕ) → count ≤ k → k < length numbers → n ≤ slice_index numbers k

-- for each count of events up to the end the column has how many of the numbers are at most that
abbrev pub IsColumn : (numbers column : List ℕ) → ℕ → Type 0
IsColumn numbers column end = (n : ℕ) → n ≤ end → slice_index column n ≡ count_up_to numbers n

-- there is such a column for each of the first k processes
abbrev pub HaveColumns : Computation → (numbers columns : List (List ℕ)) → ℕ → Type 0
HaveColumns c numbers columns k =
    (q : ℕ) → q < k → IsColumn (slice_index_or numbers q []) (slice_index_or columns q []) (event_count c q)

-- for each process the row has what its column has at the event's clock
pub record IsRowBy (c : Computation) (columns : List (List ℕ)) (e : Place) (row : List ℕ) : Type 0 where
  pub one_each : length row ≡ length columns
  pub each : (q : ℕ) → q < length columns → (n : ℕ) × IsClock c e q n
      × (slice_index row q ≡ slice_index (slice_index_or columns q []) n)

-- The event's row was put after these numbers.
pub record AddsRow (c : Computation) (columns : List (List ℕ)) (e : Place) (old new : List ℕ) : Type 0 where
  pub row : List ℕ
  pub is_row : IsRowBy c columns e row
  pub is : new ≡ old ++ row

-- These are the rows of the events of process p with these numbers, one after another.
pub record AreRowsBy (c : Computation) (columns : List (List ℕ)) (p : ℕ) (numbers known : List ℕ) : Type 0 where
  pub rows : List (List ℕ)
  pub are_rows : AllZip (λ n row. IsRowBy c columns (place p n) row) numbers rows
  pub is : known ≡ flat_map (λ (row : List ℕ). row) rows
