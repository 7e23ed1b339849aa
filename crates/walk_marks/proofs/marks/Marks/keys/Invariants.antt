-- The numbers so far are those of the marked cuts of the first runs.
use Rattle.std.proofs.Common.{◌≡◌, map, take}
use Rattle.walk_keys.specs.Keys.{key_of}
use Rattle.walk_runs.specs.WholeLevels.{marked_of_runs}
use Rattle.walk_marks.specs.Marks.{lists_of}
use Rattle.walk_marks.proofs.marks.Marks.keys.Given as goal

abbrev pub invariant-loop-i : goal.invariant-loop-i
invariant-loop-i g l =
    map g.K.Key.number l.keys.items ≡ map key_of (marked_of_runs l.level.number (take l.i l.level.runs)
    (lists_of (take l.i l.level.runs) l.self.words 0))
