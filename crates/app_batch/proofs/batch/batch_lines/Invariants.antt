-- What the loop keeps: all entries that were read are answered.
use Rattle.app_arguments.specs.ConditionViews.{fail_on_view}
use Rattle.app_batch.specs.Rounds.{HasAnswered}
use Rattle.pd_spec.specs.Views.{options_view}
use Rattle.app_batch.proofs.batch.batch_lines.Given as goal

abbrev pub invariant-rounds : goal.invariant-rounds
invariant-rounds g l =
    HasAnswered (g.R.ByteSource.left l.fn.input) (options_view l.asked.options.now) (fail_on_view l.asked.fail_on.now)
    l.asked.in_bundles l.lines l.progress.number l.progress.found (g.O.Write.contents l.fn.output)
    (g.O.Write.contents l.output)
