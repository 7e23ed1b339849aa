-- The pairs of avoiding cuts as rows of bits. A row is that of one count of the first process, and its bits are those
-- of the counts of the second.
use Rattle.std.specs.Prelude.{◌≡◌, ℕ, ◌+◌, ◌-◌, ◌/◌, ◌%◌, ◌<◌, ◌≤◌, ◌⊎◌, ◌↔◌, ◌&&◌, ◌||◌, Bool, true, false, cond, nat_eq, nat_le, not, List, length, slice_index, slice_index_or}
use Rattle.walk_keys.specs.Words.{has_bit}
use Rattle.def_model.specs.Events.{Computation}
use Rattle.wide_pairs.specs.Avoiding.{IsAvoidingPair}
use Rattle.wide_pairs.specs.declared.grid_row.Row.{Row}

-- word n of a row whose first word has this number, and 0 if it has none of it
abbrev pub word_at : ℕ → List ℕ → ℕ → ℕ
word_at first words n = cond (nat_le first n) (slice_index words (n - first)) 0

-- whether the row has j
abbrev pub row_has : ℕ → List ℕ → ℕ → Bool
row_has first words j = has_bit (word_at first words (j / 64)) (j % 64)

-- whether the one before j is had; before the lowest there is the start
abbrev pub left_of : (ℕ → Bool) → Bool → ℕ → ℕ → Bool
left_of has start low j = cond (nat_eq j low) start (has (j - 1))

-- Those from low on, before end, are had that aren't good, and of which the one above or the one before is had.
pub record IsFilled (good above has : ℕ → Bool) (start : Bool) (low end : ℕ) : Type 0 where
  pub inside : (j : ℕ) → low ≤ j → j < end → has j ≡ (not (good j) && (above j || left_of has start low j))
  pub outside : (j : ℕ) → (j < low) ⊎ (end ≤ j) → has j ≡ false

-- an empty row, and then the rows of the first n counts of process p: each has the pairs of avoiding cuts
pub record AreRows (c : Computation) (test : List ℕ → Bool) (p q n : ℕ) (rows : List Row) : Type 0 where
  pub count : length rows ≡ n + 1
  pub each : (k : ℕ) (d : Row) → k < length rows → (j : ℕ)
      → (row_has (slice_index_or rows k d).first (slice_index_or rows k d).words.items j ≡ true)
      ↔ ((0 < k) × IsAvoidingPair c test p q (k - 1) j)
