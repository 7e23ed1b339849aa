-- How long a run may take, if that is limited.
use Rattle.std.specs.Prelude.{ℕ}

-- the greatest number of seconds that can be given: a week
abbrev pub time_limit : ℕ
time_limit = 604800
