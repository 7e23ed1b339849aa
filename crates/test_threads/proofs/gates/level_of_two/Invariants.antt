-- The cuts of the level are consistent.
use Rattle.std.proofs.Common.{All}
use Rattle.def_model.specs.Cuts.{IsConsistent}
use Rattle.test_threads.proofs.gates.level_of_two.Given as goal

abbrev pub invariant-loop : goal.invariant-loop
invariant-loop l = All (IsConsistent l.computation.events) l.level.cuts
