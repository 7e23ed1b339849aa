-- How many levels a holder counts.
use Rattle.std.specs.Prelude.{ℕ, ◌+◌, length}
use Rattle.walk_back.specs.declared.holder.Holder.{Holder}

-- those beside the lists that are kept: the lists that are walked, and whole levels
abbrev pub others : Holder → ℕ
others held = length held.walked.items + held.beside
