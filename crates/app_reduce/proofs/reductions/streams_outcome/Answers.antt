-- What comes of the streams that were read.
use Rattle.std.proofs.Common.{◌∙◌, map, sym}
use Rattle.std.proofs.lemmas.List.{length-map}
use Rattle.std.proofs.lemmas.Result.{IfOk-weaker}
use Rattle.judge_session.specs.Inquiries.{inquiry_view}
use Rattle.pd_gather.specs.Views.{results_view}
use Rattle.pd_spec.specs.Views.{document_view}
use Rattle.app_reduce.proofs.RunsRead.{refusal_of_results, run_of_results}
use Rattle.app_reduce.proofs.reductions.streams_outcome.Goals as goal

pub returns-in-Ok-clause-outcome : goal.returns-in-Ok-clause-outcome
returns-in-Ok-clause-outcome g c =
    let left = g.R.ByteSource.left in
    IfOk-weaker c.run_outcome.result _ _ (λ outcome h.
    run_of_results (inquiry_view c.args.inquiry) (map left c.args.sources.items) (document_view c.args.spec)
    (results_view c.in_ok-gathered.gathered.readings.items) c.in_ok-gathered.gathered.streams c.requires.document
    (c.in_ok-gathered.ensures.count ∙ sym (length-map c.args.sources.items left)) c.in_ok-gathered.ensures.given
    outcome c.in-Ok.run' c.in-Ok.ensures.run h) c.run_outcome.ensures.outcome

pub returns-in-Err-clause-outcome : goal.returns-in-Err-clause-outcome
returns-in-Err-clause-outcome g c =
    let left = g.R.ByteSource.left in
    IfOk-weaker c.refused.result _ _ (λ outcome by.
    refusal_of_results (inquiry_view c.args.inquiry) (map left c.args.sources.items) (document_view c.args.spec)
    (results_view c.in_ok-gathered.gathered.readings.items) c.in_ok-gathered.gathered.streams c.requires.document
    (c.in_ok-gathered.ensures.count ∙ sym (length-map c.args.sources.items left)) c.in_ok-gathered.ensures.given
    outcome c.in-Err.unanswered c.in-Err.ensures.refused by) c.refused.ensures.outcome
