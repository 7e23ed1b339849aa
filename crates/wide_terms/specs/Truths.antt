-- Truths by count, as the bits of words.
use Rattle.std.specs.Prelude.{ℕ, ◌/◌, ◌%◌, Bool, List, slice_index_or}
use Rattle.walk_keys.specs.Words.{has_bit}

-- the truth at a count, 64 to a word: none past the end
abbrev pub truth_at : List ℕ → ℕ → Bool
truth_at words count = has_bit (slice_index_or words (count / 64) 0) (count % 64)
