-- The runs of a level by their place, and by a number.
use Rattle.std.specs.Prelude.{ℕ, List, [], slice_index_or}
use Rattle.walk_keys.specs.Keys.{key_of}
use Rattle.walk_keys.specs.Neighbors.{cut_at}
use Rattle.walk_runs.specs.WholeLevels.{Run}

-- what stands behind the last run
abbrev pub no_run : Run
no_run = record { prefix = []; lo = 0; hi = 0 }

abbrev pub run_at : List Run → ℕ → Run
run_at runs i = slice_index_or runs i no_run

-- the number whose digits are the prefix's counts, and zeros for the last two processes
abbrev pub key_of_run : Run → ℕ
key_of_run run = key_of (cut_at run.prefix 0 0)
