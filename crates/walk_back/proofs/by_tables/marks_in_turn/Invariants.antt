-- What the loop of `marks_in_turn` keeps.
use Rattle.std.proofs.Common.{◌≡◌, map, take}
use Rattle.walk_back.specs.CompiledTests.{meaning_of}
use Rattle.walk_back.proofs.by_tables.marks_in_turn.Given as goal

abbrev pub invariant-loop-i : goal.invariant-loop-i
invariant-loop-i l = l.marks.items ≡ map (meaning_of l.test) (take l.i l.level.cuts)
