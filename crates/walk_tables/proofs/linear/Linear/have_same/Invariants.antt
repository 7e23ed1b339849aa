-- The columns so far add the same, at each cut.
use Rattle.std.proofs.Common.{◌≡◌, ℕ, List, drop}
use Rattle.walk_tables.specs.Tables.{columns_value}
use Rattle.walk_tables.proofs.linear.Linear.have_same.Given as goal

abbrev pub invariant-loop-i : goal.invariant-loop-i
invariant-loop-i l =
    (counts : List ℕ) → columns_value (drop l.i l.first) counts ≡ columns_value (drop l.i l.second) counts
    → columns_value l.first counts ≡ columns_value l.second counts
