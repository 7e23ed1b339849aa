-- Each half has fewer processes.
use Rattle.std.proofs.Common.{◌-◌}
use Rattle.pd_level.proofs.step.+more_by_some.Given as goal

abbrev pub decreases-more_by_some : goal.decreases-more_by_some
decreases-more_by_some g l = l.last - l.first
