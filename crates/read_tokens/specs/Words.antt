-- Eight bytes of a text at once.
use Rattle.std.specs.Prelude.{ℕ, Bool, ◌||◌, ◌==◌, nat_lt}

-- a control byte, a quote or a backslash
abbrev pub is_special : ℕ → Bool
is_special byte = nat_lt byte 32 || (byte == 34 || byte == 92)
