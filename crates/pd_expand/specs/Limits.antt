-- The limit of what is expanded at once.
use Rattle.std.specs.Prelude.{ℕ}

-- how many cuts a block has, but for the last one of a level, which may have less
abbrev pub block_length : ℕ
block_length = 64
