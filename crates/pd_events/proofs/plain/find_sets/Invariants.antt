-- What the loop of `find_sets` keeps.
use Rattle.std.proofs.Common.{◌≡◌, ◌++◌, drop}
use Rattle.pd_events.specs.Plain.{row_sets}
use Rattle.pd_events.proofs.plain.find_sets.Given as goal

-- the variables so far, and then those of the rest of the row
abbrev pub invariant-loop-v : goal.invariant-loop-v
invariant-loop-v l = l.sets.items ++ row_sets l.v (drop l.v l.row) ≡ row_sets 0 l.row
