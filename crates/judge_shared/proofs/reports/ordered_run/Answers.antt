-- What is found of the run is found by its order.
use Rattle.std.proofs.lemmas.Result.{IfOk-weaker}
use Rattle.judge_shared.proofs.reports.ordered_run.Goals as goal

pub returns-in-Some : goal.returns-in-Some
returns-in-Some g c =
    IfOk-weaker c.shared_run.result _ _ (λ _ found options traces streams outcomes is_document joined well sound.
    found options c.args.document.now c.in_ok-order.order traces streams outcomes is_document joined well
    c.in_ok-order.ensures.order (c.in-Some.ensures options sound))
    c.shared_run.ensures

pub returns-in-None : goal.returns-in-None
returns-in-None g c =
    IfOk-weaker c.judged_run.result _ _ (λ _ found options traces streams outcomes is_document joined well sound.
    found options c.args.document.now traces streams outcomes is_document joined well c.in_ok-order.ensures.order)
    c.judged_run.ensures
