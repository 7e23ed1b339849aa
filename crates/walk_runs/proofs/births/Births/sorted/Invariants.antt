-- What the loop of `sorted` keeps.
use Rattle.std.proofs.Common.{◌≡◌, ◌++◌, take}
use Rattle.walk_runs.specs.Collected.{births_in}
use Rattle.walk_runs.specs.Kept.{birth_view, births_view}
use Rattle.walk_runs.proofs.births.Births.sorted.Given as goal

abbrev pub invariant-loop-i : goal.invariant-loop-i
invariant-loop-i g l =
    births_view g.K.Key.number l.all.items
    ≡ births_view g.K.Key.number l.self-inside.few.items
    ++ births_in (birth_view g.K.Key.number) (take l.i l.self-inside.lists.items)
