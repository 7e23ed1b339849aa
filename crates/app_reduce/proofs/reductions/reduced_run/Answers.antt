-- What comes of the streams comes of the document; or the document is refused.
use Rattle.std.proofs.Common.{map}
use Rattle.std.proofs.lemmas.Result.{IfOk-weaker}
use Rattle.judge_session.specs.Inquiries.{inquiry_view}
use Rattle.app_reduce.proofs.RunsRead.{of_run, refused_document}
use Rattle.app_reduce.proofs.reductions.reduced_run.Goals as goal

pub returns-in-Ok-clause-outcome : goal.returns-in-Ok-clause-outcome
returns-in-Ok-clause-outcome g c =
    IfOk-weaker c.streams_outcome.result _ _ (λ outcome h.
    of_run (inquiry_view c.args.inquiry) (map g.R.ByteSource.left c.args.sources.items) outcome h)
    c.streams_outcome.ensures.outcome

pub returns-in-Err-clause-outcome : goal.returns-in-Err-clause-outcome
returns-in-Err-clause-outcome g c =
    IfOk-weaker c.refused.result _ _ (λ outcome by.
    refused_document (inquiry_view c.args.inquiry) (map g.R.ByteSource.left c.args.sources.items)
    c.in-Err.unanswered outcome c.in-Err.ensures.refused by) c.refused.ensures.outcome
