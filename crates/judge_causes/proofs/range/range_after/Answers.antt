-- Fewer aren't enough.
use Rattle.judge_causes.proofs.SearchSteps.{not_enough_after}
use Rattle.judge_causes.proofs.range.range_after.Goals as goal

pub returns-in-NotEnough-clause-range : goal.returns-in-NotEnough-clause-range
returns-in-NotEnough-clause-range c r predicate candidates kept range found =
    not_enough_after r predicate candidates kept c.args.range c.args.count c.args.trial c.requires.high
    c.in-NotEnough.is range found
