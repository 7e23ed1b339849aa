-- The traces fit as the readings do.
use Rattle.def_format.specs.Limits.{event_limit}
use Rattle.judge_explore.proofs.pages.fitting_traces.Goals as goal

pub returns-in-Ok-clause-fit : goal.returns-in-Ok-clause-fit
returns-in-Ok-clause-fit c = c.in-Ok.ensures.fit event_limit c.requires
