-- A judgement that fails does so with all predicates that are named.
use Rattle.std.proofs.Common.{Err, map}
use Rattle.app_arguments.specs.ConditionViews.{fail_on_view}
use Rattle.app_arguments.specs.Statuses.{OfStreams}
use Rattle.judge_session.specs.Inquiries.{inquiry_view}
use Rattle.app_host.specs.Faults.{judgement_ending}
use Rattle.app_host.proofs.NamedPredicates.{with_named}
use Rattle.app_host.proofs.judgements.judge_named.Goals as goal

pub returns-in-Err : goal.returns-in-Err
returns-in-Err g c =
    let fail_on = fail_on_view c.args.judgement.now.fail_on in
    with_named fail_on (OfStreams (map g.R.ByteSource.left c.args.streams.items) fail_on)
    (inquiry_view c.args.inquiry) (g.O.Write.contents c.args.output.now) (g.O.Write.contents c.judge_read.new.output)
    (c.in_ok-has_named.ensures.yes c.if-not-branch.false) (λ never. never)
    (judgement_ending fail_on (Err c.in-Err.fault)) (c.in-Err.ensures fail_on)
