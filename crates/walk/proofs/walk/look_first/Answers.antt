-- One predicate after the other is looked at.
use Rattle.std.proofs.Common.{◌≡◌, ◌+◌, ℕ, ◌++◌, [], ◌∷◌, List, get_or, length, length-append, ap, sym, ◌∙◌, subst, arith}
use Rattle.walk.specs.Stages.{OneStands}
use Rattle.walk.specs.declared.stage.Stage.{Stage}
use Rattle.walk.proofs.Standing.{each_more}
use Rattle.walk.proofs.Tasks.{open_at_first, stands_of}
use Rattle.walk.proofs.walk.look_first.Goals as goal

pub stage_at-requires-clause-opened : goal.stage_at-requires-clause-opened
stage_at-requires-clause-opened g c _ _ =
    open_at_first c.args.round.now c.loop-i.i c.task_of-task.result c.task_of-task.ensures c.requires.number

pub loop-i-preserved : goal.loop-i-preserved
loop-i-preserved g c =
    let pushed : c.push.new.self.items ≡ c.loop-i.stages.items ++ c.in_ok-stage_at.field-0 ∷ [] =
    c.in_ok-push.ensures.items in
    record {
      one_each =
          ap length pushed
          ∙ (length-append c.loop-i.stages.items (c.in_ok-stage_at.field-0 ∷ [])
          ∙ ap (λ (n : ℕ). n + 1) c.loop-i.invariant.one_each);
      each = λ j test stage lt.
          subst (λ (stages : List Stage). OneStands (get_or c.args.round.now.tests.now j test) c.args.round.now.width
          c.args.round.now.gap c.args.round.now.level.now (get_or stages j stage)) (sym pushed)
          (each_more c.loop-i.stages.items c.in_ok-stage_at.field-0
          (λ n at. OneStands (get_or c.args.round.now.tests.now n test) c.args.round.now.width c.args.round.now.gap
          c.args.round.now.level.now at)
          (λ n d low. c.loop-i.invariant.each n test d (omega (arith, c.loop-i.invariant.one_each)))
          (subst (λ (n : ℕ). OneStands (get_or c.args.round.now.tests.now n test) c.args.round.now.width
          c.args.round.now.gap c.args.round.now.level.now c.in_ok-stage_at.field-0)
          (sym c.loop-i.invariant.one_each)
          (stands_of c.args.round.now c.loop-i.i c.task_of-task.result c.task_of-task.ensures
          c.in_ok-stage_at.field-0 c.in_ok-stage_at.ensures test)) j stage
          (omega (arith, c.loop-i.invariant.one_each)));
    }
