-- What the loop of `empty_lists` keeps.
use Rattle.std.proofs.Common.{◌≡◌, [], length}
use Rattle.walk_runs.specs.Collected.{births_in}
use Rattle.walk_runs.specs.Kept.{birth_view}
use Rattle.walk_runs.proofs.births.empty_lists.Given as goal

abbrev pub invariant-loop : goal.invariant-loop
invariant-loop g l = (births_in (birth_view g.K.Key.number) l.lists.items ≡ []) × (length l.lists.items ≡ l.counter)
