-- What came of the trials before, and what is left of them.
use Rattle.std.proofs.Common.{length}
use Rattle.std.specs.Prelude.{All}
use Rattle.def_format.specs.Documents.{Options}
use Rattle.judge_shared.specs.Sharing.{AreSound}
use Rattle.judge_shared.specs.Trials.{IsTrialResult}
use Rattle.judge_shared.proofs.TrialSteps.{AreFinal}
use Rattle.judge_shared.proofs.trial.final_outcomes.Given as goal

abbrev pub invariant-loop-alloc : goal.invariant-loop-alloc
invariant-loop-alloc l =
    (options : Options) → AreSound options l.fn.orders → All (IsTrialResult options) l.fn.trials.items
    → AreFinal options l.fn.trials.items l.rest.items l.outcomes.items l.orders

abbrev pub decreases-loop-alloc : goal.decreases-loop-alloc
decreases-loop-alloc l = length l.rest.items
