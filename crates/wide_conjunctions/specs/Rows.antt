-- The intervals of each process, by the count before which one is looked for. `good` says which counts are good.
use Rattle.std.specs.Prelude.{◌≡◌, ℕ, ◌+◌, ◌≤◌, ◌<◌, Bool, List, length, slice_index, slice_index_or}
use Rattle.def_model.specs.Events.{Computation, event_count}
use Rattle.wide_conjunctions.specs.Ways.{IsFirstOf, IsLastGood}
use Rattle.wide_conjunctions.specs.declared.rows.Row.{Row}

-- the last interval before a count begins and is left there, or there is none, and both are 0
pub record IsIntervalBefore (good : ℕ → Bool) (before start leave : ℕ) : Type 0 where
  pub last : IsLastGood good before leave
  pub first : IsFirstOf good leave start

-- the same for each count up to one more than the last
pub record IsRow (good : ℕ → Bool) (last : ℕ) (starts leaves : List ℕ) : Type 0 where
  pub starts_each : length starts ≡ last + 2
  pub leaves_each : length leaves ≡ last + 2
  pub each : (n : ℕ) → n ≤ last + 1 → IsIntervalBefore good n (slice_index starts n) (slice_index leaves n)

-- a row for each process
pub record AreRows (c : Computation) (good : ℕ → ℕ → Bool) (rows : List Row) : Type 0 where
  pub one_each : length rows ≡ length c
  pub each : (p : ℕ) (d : Row) → p < length c
      → IsRow (good p) (event_count c p) (slice_index_or rows p d).starts.items (slice_index_or rows p d).leaves.items
