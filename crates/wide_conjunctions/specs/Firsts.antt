-- The first good count of each process, and the events that don't lead to one. `firsts` has a count for each process.
use Rattle.std.specs.Prelude.{◌≡◌, ℕ, ◌+◌, ◌<◌, ◌≤◌, Bool, true, false, List, length, slice_index}
use Rattle.def_model.specs.Events.{Computation, Place, event_count, place}
use Rattle.def_model.specs.Order.{IsClock}

-- the first good count, or one more than the last count if none is good
pub record IsFirstGood (good : ℕ → Bool) (last first : ℕ) : Type 0 where
  pub within : first ≤ last + 1
  pub below : (n : ℕ) → n < first → good n ≡ false
  pub here : first ≤ last → good first ≡ true

-- the same of each process
pub record AreFirsts (c : Computation) (good : ℕ → ℕ → Bool) (firsts : List ℕ) : Type 0 where
  pub one_each : length firsts ≡ length c
  pub each : (q : ℕ) → q < length c → IsFirstGood (good q) (event_count c q) (slice_index firsts q)

-- of each process fewer events are this one or happened before it than bring it to its first good count
abbrev pub IsFree : Computation → List ℕ → Place → Type 0
IsFree c firsts e = (q : ℕ) → q < length c → (n : ℕ) × IsClock c e q n × (n < slice_index firsts q)

-- of some process as many are
abbrev pub IsLate : Computation → List ℕ → Place → Type 0
IsLate c firsts e = (q n : ℕ) × (q < length c) × IsClock c e q n × (slice_index firsts q ≤ n)

-- the first events of process p, this many, are free, and the next one, if there is one, isn't
pub record IsFreeCount (c : Computation) (firsts : List ℕ) (p count : ℕ) : Type 0 where
  pub within : count ≤ event_count c p
  pub free : (n : ℕ) → 1 ≤ n → n ≤ count → IsFree c firsts (place p n)
  pub next : count < event_count c p → IsLate c firsts (place p (count + 1))

-- the same of each process
pub record AreFreeCounts (c : Computation) (firsts counts : List ℕ) : Type 0 where
  pub one_each : length counts ≡ length c
  pub each : (p : ℕ) → p < length c → IsFreeCount c firsts p (slice_index counts p)
