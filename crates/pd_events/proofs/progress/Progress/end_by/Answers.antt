-- Takes the fault after the lines.
use Rattle.pd_events.proofs.progress.Progress.end_by.Goals as goal

pub returns : goal.returns
returns c = c.with_fault-self.ensures c.args.self.now.events
