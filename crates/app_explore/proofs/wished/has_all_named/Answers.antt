-- Both are there.
use Rattle.app_arguments.specs.ConditionViews.{fail_on_view}
use Rattle.judge_runs.specs.Views.{wishes_view}
use Rattle.judge_session.specs.Inquiries.{inquiry_view}
use Rattle.std.proofs.lemmas.Result.{IfOk-weaker}
use Rattle.app_explore.proofs.WishedNames.{has_both, lacks_first, lacks_second}
use Rattle.app_explore.proofs.wished.has_all_named.Goals as goal

pub returns-then-not-branch-clause-no : goal.returns-then-not-branch-clause-no
returns-then-not-branch-clause-no c = λ _.
    lacks_first (fail_on_view c.args.fail_on.now) (wishes_view c.args.wishes.now) (inquiry_view c.args.inquiry)
    (c.in_ok-has_named.ensures.no c.if-not-branch.true)

pub returns-clause-yes : goal.returns-clause-yes
returns-clause-yes c =
    IfOk-weaker c.has_wished.result _ _ (λ has yes is. has_both (fail_on_view c.args.fail_on.now)
    (wishes_view c.args.wishes.now) (inquiry_view c.args.inquiry)
    (c.in_ok-has_named.ensures.yes c.if-not-branch.false) (yes is)) c.has_wished.ensures.yes

pub returns-clause-no : goal.returns-clause-no
returns-clause-no c =
    IfOk-weaker c.has_wished.result _ _ (λ has no is. lacks_second (fail_on_view c.args.fail_on.now)
    (wishes_view c.args.wishes.now) (inquiry_view c.args.inquiry)
    (c.in_ok-has_named.ensures.yes c.if-not-branch.false) (no is)) c.has_wished.ensures.no
