-- Ascending numbers whose digits are cuts, and the cuts that one more event makes of those.
use Rattle.std.specs.Prelude.{◌≡◌, ℕ, ◌+◌, ◌-◌, ◌<◌, ◌≤◌, ◌↔◌, List, length, slice_index, Contains, take, drop}
use Rattle.walk_keys.specs.Keys.{AreKeys, Ascending, count_base, digits, key_of}
use Rattle.def_model.specs.Events.{Computation}
use Rattle.def_model.specs.Cuts.{IsConsistent, one_more}

-- ascending numbers whose digits are cuts
pub record AreCuts (c : Computation) (keys : List ℕ) : Type 0 where
  pub are_keys : AreKeys (length c) keys
  pub consistent : (i : ℕ) → i < length keys → IsConsistent c (digits (length c) (slice_index keys i))

-- the keys from one index on and before another
abbrev pub piece : List ℕ → ℕ → ℕ → List ℕ
piece keys start end = take (end - start) (drop start keys)

-- of each of the numbers of n digits the count of process p may grow
abbrev pub HaveRoom : ℕ → ℕ → List ℕ → Type 0
HaveRoom n p keys = (i : ℕ) → i < length keys → slice_index (digits n (slice_index keys i)) p + 1 < count_base

-- one more event of process p makes this cut of one of those
abbrev pub IsMoreBy : Computation → List ℕ → ℕ → ℕ → Type 0
IsMoreBy c keys p x =
    (key : ℕ) × Contains keys key × IsConsistent c (one_more (digits (length c) key) p)
    × (x ≡ key_of (one_more (digits (length c) key) p))

-- The number lies between two of those, each given by its index: not below the first one, and below the last one. The
-- first one of index 0 is no bound, and neither is a last one past the end.
abbrev pub IsInRange : List ℕ → ℕ → ℕ → ℕ → Type 0
IsInRange keys from to x = (0 < from → slice_index keys from ≤ x) × (to < length keys → x < slice_index keys to)

-- the cuts that one more event of the processes from first on and before last makes, those that lie in range
pub record IsMoreBySome (c : Computation) (keys : List ℕ) (from to first last : ℕ) (more : List ℕ) : Type 0 where
  pub ascending : Ascending more
  pub just : (x : ℕ) → Contains more x
      ↔ (((p : ℕ) × (first ≤ p) × (p < last) × IsMoreBy c keys p x) × IsInRange keys from to x)
