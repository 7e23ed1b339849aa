-- The processes so far have the names so far.
use Rattle.std.proofs.Common.{take}
use Rattle.judge_check.specs.Verdicts.{AreNamed}
use Rattle.judge_check.proofs.evidence.path_of.Given as goal

abbrev pub invariant-loop-step : goal.invariant-loop-step
invariant-loop-step l = AreNamed l.names (take l.step-index l.reported) l.path.items
