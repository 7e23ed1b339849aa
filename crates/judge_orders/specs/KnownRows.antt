-- What the kept events of a process know of: how many kept events of each process are such an event or happened before
-- it.
use Rattle.std.specs.Prelude.{◌≡◌, ℕ, List, [], flat_map, slice_index_or}
use Rattle.std.specs.List.{AllZip}
use Rattle.def_model.specs.Events.{place}
use Rattle.def_model.specs.Predicates.{Recorded}
use Rattle.def_orders.specs.Orders.{IsKnownTo}

-- These are the rows of the kept events of process p, one after another. A list for each process has the numbers of its
-- kept events.
pub record AreKnownRows (r : Recorded) (numbers : List (List ℕ)) (p : ℕ) (known : List ℕ) : Type 0 where
  pub rows : List (List ℕ)
  pub are_rows : AllZip (λ n row. IsKnownTo r numbers (place p n) row) (slice_index_or numbers p []) rows
  pub is : known ≡ flat_map (λ (row : List ℕ). row) rows
