-- Which events are kept.
use Rattle.std.specs.Prelude.{◌≡◌, ◌≢◌, ℕ, ◌+◌, ◌<◌, ◌≤◌, List, [], All, AllPairs, Contains, length, slice_index_or}
use Rattle.def_model.specs.Events.{IsEvent, place}
use Rattle.def_model.specs.Predicates.{Recorded}
use Rattle.def_orders.specs.Orders.{AreKept, values_after}

-- These are the numbers of the kept events of process p up to its event k.
pub record AreKeptUpTo (r : Recorded) (p : ℕ) (vars numbers : List ℕ) (k : ℕ) : Type 0 where
  pub ascend : AllPairs (λ (m n : ℕ). m < n) numbers
  pub events : All (λ n. IsEvent r.events (place p n)) numbers
  pub within : All (λ n. n ≤ k) numbers
  pub changes : (n : ℕ) → Contains numbers (n + 1) → values_after r p vars n ≢ values_after r p vars (n + 1)
  pub others : (n : ℕ) → n < k → (¬ Contains numbers (n + 1))
      → values_after r p vars n ≡ values_after r p vars (n + 1)

-- each of the first k processes has its kept events
abbrev pub AllKept : Recorded → (named numbers : List (List ℕ)) → ℕ → Type 0
AllKept r named numbers k =
    (p : ℕ) → p < k → AreKept r p (slice_index_or named p []) (slice_index_or numbers p [])

-- the numbers of each process ascend
abbrev pub AllAscend : List (List ℕ) → Type 0
AllAscend numbers =
    (p : ℕ) → p < length numbers → AllPairs (λ (m n : ℕ). m < n) (slice_index_or numbers p [])
