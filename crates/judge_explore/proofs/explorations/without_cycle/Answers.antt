-- A refusal that is for no causal cycle is kept.
use Rattle.std.proofs.Common.{◌∙◌, ap, sym}
use Rattle.judge_session.specs.Unanswered.{refused_report}
use Rattle.judge_explore.proofs.explorations.without_cycle.Goals as goal

pub returns-else-is_cycle : goal.returns-else-is_cycle
returns-else-is_cycle c = (ap refused_report c.in-Refused.is, sym c.is_cycle.ensures ∙ c.if-is_cycle.false)
