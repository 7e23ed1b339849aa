-- The cuts of the level are consistent.
use Rattle.std.proofs.Common.{All}
use Rattle.def_model.specs.Cuts.{IsConsistent}
use Rattle.test_threads.proofs.levels.are_levels.Given as goal

abbrev pub invariant-loop-length : goal.invariant-loop-length
invariant-loop-length _ l = All (IsConsistent l.computation.events) l.level.cuts
