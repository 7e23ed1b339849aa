-- The refusal is for no causal cycle.
use Rattle.std.proofs.Common.{map}
use Rattle.judge_session.specs.Inquiries.{inquiry_view}
use Rattle.judge_explore.proofs.Written.{kept_refusal}
use Rattle.judge_explore.proofs.explorations.page_by_crew.Goals as goal

pub returns-in-Err-clause-refused : goal.returns-in-Err-clause-refused
returns-in-Err-clause-refused g c =
    kept_refusal (inquiry_view c.args.inquiry) (map g.R.ByteSource.left c.args.readers.items) c.in-Err.unanswered
    c.without_cycle.result c.in-Err.ensures.refused c.without_cycle.ensures
