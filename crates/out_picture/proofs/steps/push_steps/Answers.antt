-- One step more is there, and one less to come.
use Rattle.std.proofs.Common.{◌≡◌, ◌++◌, ◌∙◌, ap, ℕ, List, get_or, replicate}
use Rattle.out_picture.specs.Pictures.{steps_shapes}
use Rattle.out_picture.specs.Shapes.{all_seen}
use Rattle.out_picture.specs.Tables.{column_at}
use Rattle.out_picture.proofs.StepFacts.{more_small, step_more}
use Rattle.out_picture.proofs.steps.push_steps.Goals as goal

pub loop-step-preserved : goal.loop-step-preserved
loop-step-preserved c = record {
  small = λ q. rw c.add_one.ensures (more_small c.loop-step.counts.items (get_or c.args.path.now c.loop-step.step 0)
      c.loop-step.step c.loop-step.invariant.small q);
  rest = let read : c.count_at.result ≡ get_or c.loop-step.counts.items (get_or c.args.path.now c.loop-step.step 0) 0 =
      c.count_at.ensures ∙ ap (λ (counts : List ℕ). get_or counts (get_or c.args.path.now c.loop-step.step 0) 0)
      c.deref.ensures.value in
      rw c.add_one.ensures (step_more c.args.window (column_at c.args.rows.now) (all_seen c.args.shapes.now.items
      ++ steps_shapes c.args.window (column_at c.args.rows.now) (replicate c.args.processes 0) 1 c.args.path.now)
      (all_seen c.loop-step.shapes.items) (all_seen c.push_step.new.shapes.items) c.loop-step.counts.items
      c.args.path.now c.loop-step.step c.count_at.result c.loop-step-test.true read c.in_ok-push_step.ensures
      c.loop-step.invariant.rest);
}
