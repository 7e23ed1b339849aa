-- The bits of a word as truths. Bit 0 is the lowest.
use Rattle.std.specs.Prelude.{ℕ, zero, suc, ◌+◌, Bool, cond, nat_eq}
use Rattle.std.specs.Int.{bit_at}

-- whether bit j of the word is set
abbrev pub has_bit : ℕ → ℕ → Bool
has_bit word j = nat_eq (bit_at word j) 1

-- how many of the lowest n bits are set
abbrev pub set_below : ℕ → ℕ → ℕ
set_below word zero = 0
set_below word (suc n) = set_below word n + cond (has_bit word n) 1 0
