-- What is written of a round.
use Rattle.std.proofs.Common.{inr}
use Rattle.app_arguments.specs.ConditionViews.{fail_on_view}
use Rattle.app_batch.proofs.Progress.{on_err, round_cut, round_written}
use Rattle.pd_spec.specs.Views.{options_view}
use Rattle.app_batch.proofs.batch.write_round.Goals as goal

pub returns-in_err-write_flushed-clause-left : goal.returns-in_err-write_flushed-clause-left
returns-in_err-write_flushed-clause-left g c =
    on_err c.from_residual-in_err-write_flushed.result
    (inr (round_cut (options_view c.args.asked.now.options.now) (fail_on_view c.args.asked.now.fail_on.now)
    c.args.asked.now.in_bundles c.args.progress.number c.args.progress.found c.args.round.now
    c.in_ok-results.results.items c.deref.result.now
    c.in_ok-text.text.items c.deref-2.result.now c.in_ok-text.found c.in_ok-results.ensures c.deref.ensures.value
    c.in_ok-text.ensures.text c.deref-2.ensures.value (g.O.Write.contents c.args.output.now)
    (g.O.Write.contents c.write_flushed.new.output) c.in_err-write_flushed.ensures.part))

pub returns-clause-written : goal.returns-clause-written
returns-clause-written g c =
    round_written (options_view c.args.asked.now.options.now) (fail_on_view c.args.asked.now.fail_on.now)
    c.args.asked.now.in_bundles c.args.progress.number c.args.progress.found c.args.round.now
    c.in_ok-results.results.items c.deref.result.now
    c.in_ok-text.text.items c.deref-2.result.now c.in_ok-text.found c.in_ok-results.ensures c.deref.ensures.value
    c.in_ok-text.ensures.text c.deref-2.ensures.value (g.O.Write.contents c.args.output.now)
    (g.O.Write.contents c.write_flushed.new.output) c.in_ok-number.number c.in_ok-number.ensures.all.0
    c.in_ok-write_flushed.ensures.written
