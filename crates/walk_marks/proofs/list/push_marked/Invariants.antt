-- The numbers so far are those of the run's first marked cuts.
use Rattle.std.proofs.Common.{◌≡◌, ◌++◌, map}
use Rattle.walk_marks.specs.Marks.{bits_list, marked_keys}
use Rattle.walk_marks.specs.RunPlaces.{run_at}
use Rattle.walk_marks.proofs.list.push_marked.Given as goal

abbrev pub invariant-loop-d : goal.invariant-loop-d
invariant-loop-d g l =
    map g.K.Key.number l.keys.items ≡ map g.K.Key.number l.fn.keys.items
    ++ marked_keys l.level.number (run_at l.level.runs l.i) (bits_list l.all l.start 0 l.d)
