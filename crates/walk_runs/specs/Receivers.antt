-- Bits that are set in a table, which has a word for each number of events of each process.
use Rattle.std.specs.Prelude.{◌≡◌, ◌↔◌, ◌⊎◌, ℕ, ◌<◌, IsTrue, List, [], Some, length, slice_get, slice_index_or}
use Rattle.walk_keys.specs.Words.{has_bit}
use Rattle.walk_runs.specs.declared.need.Need.{Need}

-- bit p of word number of process q
abbrev pub HasReceiver : List (List ℕ) → ℕ → ℕ → ℕ → Type 0
HasReceiver table q number p = IsTrue (has_bit (slice_index_or (slice_index_or table q []) number 0) p)

-- in the new words bit p is set in word number, and every other bit is as it was
pub record IsSet (number p : ℕ) (old new : List ℕ) : Type 0 where
  pub same : length new ≡ length old
  pub exact : (k j : ℕ) → IsTrue (has_bit (slice_index_or new k 0) j)
      ↔ (IsTrue (has_bit (slice_index_or old k 0) j) ⊎ ((k ≡ number) × (j ≡ p)))

-- the new table is as large as the old one, and has its bits and those that are added, but no others
pub record HasAdded (Added : ℕ → ℕ → ℕ → Type 0) (old new : List (List ℕ)) : Type 0 where
  pub same : length new ≡ length old
  pub sizes : (q : ℕ) → length (slice_index_or new q []) ≡ length (slice_index_or old q [])
  pub exact : (q number p : ℕ) → HasReceiver new q number p ↔ (HasReceiver old q number p ⊎ Added q number p)

-- the need is event number of process q, and the table has a word for that
pub record IsNeeded (table : List (List ℕ)) (need : Need) (q number : ℕ) : Type 0 where
  pub process : need.process ≡ q
  pub event : need.number ≡ number
  pub some : 0 < number
  pub within : number < length (slice_index_or table q [])

-- bit p of the event that is needed
abbrev pub IsBitOf : List (List ℕ) → Need → ℕ → ℕ → ℕ → ℕ → Type 0
IsBitOf table need p q number j = IsNeeded table need q number × (j ≡ p)

-- bit p of each event that is needed by one of the first n of a row
abbrev pub IsBitOfRow : List (List ℕ) → List Need → ℕ → ℕ → ℕ → ℕ → ℕ → Type 0
IsBitOfRow table row n p q number j =
    (i : ℕ) × (need : Need) × (i < n) × (slice_get row i ≡ Some need) × IsBitOf table need p q number j
