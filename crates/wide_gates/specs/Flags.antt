-- Lists of truths.
use Rattle.std.specs.Prelude.{◌≡◌, ℕ, ◌<◌, ◌&&◌, ◌||◌, Bool, false, List, length, slice_index_or}

pub record AreBoth (left right flags : List Bool) : Type 0 where
  pub one_each : length flags ≡ length left
  pub each : (k : ℕ) → k < length left
      → slice_index_or flags k false ≡ (slice_index_or left k false && slice_index_or right k false)

pub record AreEither (left right flags : List Bool) : Type 0 where
  pub one_each : length flags ≡ length left
  pub each : (k : ℕ) → k < length left
      → slice_index_or flags k false ≡ (slice_index_or left k false || slice_index_or right k false)
