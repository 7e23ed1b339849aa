-- A number in two halves.
use Rattle.std.specs.Prelude.{ℕ, ◌+◌, ◌*◌, ◌^◌}
use Rattle.walk_keys.specs.Keys.{count_base}

-- how many counts one half has room for
abbrev pub single_limit : ℕ
single_limit = 8

-- the number with these halves
abbrev pub pair_number : ℕ → ℕ → ℕ
pair_number first second = first * count_base ^ single_limit + second
