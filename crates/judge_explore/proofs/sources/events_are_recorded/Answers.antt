-- The law of a stream's lines.
use Rattle.judge_explore.proofs.EventLines.{events_recorded}
use Rattle.judge_explore.proofs.sources.events_are_recorded.Goals as goal

pub returns : goal.returns
returns c = events_recorded
