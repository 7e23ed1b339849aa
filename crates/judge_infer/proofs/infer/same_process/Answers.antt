-- One more process, whose name no earlier one has.
use Rattle.std.proofs.Common.{◌∙◌}
use Rattle.judge_infer.proofs.SameSteps.{same_goes_on}
use Rattle.judge_infer.specs.Views.{process_view}
use Rattle.judge_infer.proofs.infer.same_process.Goals as goal

pub loop-i-preserved : goal.loop-i-preserved
loop-i-preserved c =
    c.loop-i.invariant
    ∙ same_goes_on process_view c.args.processes.now c.loop-i.i c.index-processes-i.result c.loop-i-test.true
    c.split_at.result.0.now
    c.as_str.result.now c.place_of.result c.split_at.ensures.front
    c.as_str.ensures.value c.place_of.ensures c.in_default.is
