-- The consistent pairs of one count of the first process: the counts of the second are an interval, whose ends never
-- fall as the first count grows.
use Rattle.std.specs.Prelude.{◌≡◌, ℕ, ◌<◌, ◌≤◌, ◌↔◌, Bool, true, false, Option, Some, None, List, length, slice_index}
use Rattle.def_model.specs.Events.{Computation}
use Rattle.wide_pairs.specs.Pairs.{IsPair}

-- j makes a consistent pair with i exactly if it is from low on and before end
abbrev pub IsRow : Computation → ℕ → ℕ → ℕ → ℕ → ℕ → Type 0
IsRow c p q i low end = (j : ℕ) → IsPair c p q i j ↔ ((low ≤ j) × (j < end))

-- the first `end` of these numbers are at most i
abbrev pub AreUpTo : List ℕ → ℕ → ℕ → Type 0
AreUpTo numbers i end = (j : ℕ) → j < end → slice_index numbers j ≤ i

-- and the next one, if there is one, isn't
pub record IsEnd (numbers : List ℕ) (i end : ℕ) : Type 0 where
  pub within : end ≤ length numbers
  pub before : AreUpTo numbers i end
  pub next : end < length numbers → i < slice_index numbers end

-- the least number from low on, before end, at which this is true, or none
abbrev pub IsFirstTrue : (ℕ → Bool) → ℕ → ℕ → Option ℕ → Type 0
IsFirstTrue good low end (Some j) =
    (low ≤ j) × (j < end) × (good j ≡ true) × ((k : ℕ) → low ≤ k → k < j → good k ≡ false)
IsFirstTrue good low end None = (k : ℕ) → low ≤ k → k < end → good k ≡ false
