-- One setting more is in the list.
use Rattle.std.proofs.Common.{◌∙◌, ap, ◌++◌, [], ◌∷◌}
use Rattle.judge_causes.proofs.ReducedSteps.{take_next}
use Rattle.judge_causes.proofs.reduce.copy_settings.Goals as goal

pub loop-i-preserved : goal.loop-i-preserved
loop-i-preserved c =
    c.in_ok-push.ensures.items ∙ ap (λ list. list ++ c.get.result ∷ []) c.loop-i.invariant
    ∙ take_next c.args.settings.now c.loop-i.i c.get.result c.get.ensures
