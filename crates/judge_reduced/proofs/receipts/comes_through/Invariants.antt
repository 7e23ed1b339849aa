-- Nothing is known of the processes so far.
use Rattle.std.specs.Prelude.{⊤}
use Rattle.judge_reduced.proofs.receipts.comes_through.Given as goal

abbrev pub invariant-loop-s : goal.invariant-loop-s
invariant-loop-s l = ⊤
