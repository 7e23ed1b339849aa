-- The numbers so far are the same.
use Rattle.std.proofs.Common.{◌≡◌, ℕ, ◌<◌, get_or, pos}
use Rattle.walk_tables.proofs.table.are_same.Given as goal

abbrev pub invariant-loop-i : goal.invariant-loop-i
invariant-loop-i l = (k : ℕ) → k < l.i → get_or l.first k (pos 0) ≡ get_or l.second k (pos 0)
