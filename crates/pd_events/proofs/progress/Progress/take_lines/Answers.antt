-- Takes these lines, and the fault after them.
use Rattle.std.proofs.Common.{ap, ◌∙◌}
use Rattle.def_format.specs.Readings.{with_end}
use Rattle.pd_events.specs.Progress.{stop_of_fault}
use Rattle.pd_events.proofs.progress.Progress.take_lines.Goals as goal

pub returns-in-Ok-clause-ok : goal.returns-in-Ok-clause-ok
returns-in-Ok-clause-ok c =
    c.with_fault-self.ensures c.take_each.new.events
    ∙ ap (with_end (stop_of_fault c.args.following)) c.in-Ok.ensures.after
