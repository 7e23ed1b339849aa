-- What is left of what is seen of a process if of each row only the counts at some places are.
use Rattle.std.specs.Prelude.{◌≡◌, ℕ, ◌<◌, List, All, flat_map, length, slice_index_or}
use Rattle.def_orders.specs.Orders as orders
use Rattle.def_orders.specs.Selections.{at_places}

-- If the whole is rows of this width, one after another, these are the counts at these places of each row.
abbrev pub AreCountsAt : (width : ℕ) → (places known counts : List ℕ) → Type 0
AreCountsAt width places known counts =
    (rows : List (List ℕ)) → All (λ (row : List ℕ). length row ≡ width) rows
    → known ≡ flat_map (λ (row : List ℕ). row) rows
    → counts ≡ flat_map (λ (row : List ℕ). at_places places row 0) rows

-- The process has the same values, and of each row of this width the counts at these places.
pub record IsPartBy (width : ℕ) (places : List ℕ) (whole part : orders.ProcessOrder) : Type 0 where
  pub values : part.values ≡ whole.values
  pub counts : AreCountsAt width places whole.known part.known

-- these are the parts of the processes at the first k places
abbrev pub ArePartsBy : (width : ℕ) → (places : List ℕ) → (whole part : List orders.ProcessOrder) → ℕ → Type 0
ArePartsBy width places whole part k =
    (i : ℕ) (d : orders.ProcessOrder) → i < k
    → IsPartBy width places (slice_index_or whole (slice_index_or places i 0) d) (slice_index_or part i d)
