-- The word of a process that is there.
use Rattle.std.proofs.Common.{◌-◌, length, arith}
use Rattle.walk_runs.proofs.Receivers.{no_receiver}
use Rattle.walk_runs.proofs.steps.Steps.receivers.Goals as goal

pub returns-then-q-prefix : goal.returns-then-q-prefix
returns-then-q-prefix c =
    no_receiver c.args.self.now (length c.args.self.now - 2) c.args.q c.args.number
    (omega (arith, c.if-q-prefix.true, c.prefix.ensures, c.limits.ensures.two))
