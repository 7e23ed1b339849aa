-- One predicate after the other is looked at.
use Rattle.std.proofs.Common.{get_or, sym, subst, arith}
use Rattle.walk_tables.specs.Views.{CompiledView}
use Rattle.walk.specs.Stages.{OneStands}
use Rattle.walk.specs.declared.stage.Stage.{Stage}
use Rattle.walk.proofs.Standing.{all_looked, none_looked, one_looked}
use Rattle.walk.proofs.Tasks.{before_task, stands_for, stands_of}
use Rattle.walk.proofs.walk.look_in_turn.Goals as goal

pub loop-i-init : goal.loop-i-init
loop-i-init g c =
    none_looked c.args.round.now.tests.now c.args.round.now.width c.args.round.now.gap c.args.before.now
    c.args.round.now.level.now c.args.stages.now.items c.requires.stand

pub look-requires-clause-before : goal.look-requires-clause-before
look-requires-clause-before g c _ _ =
    before_task c.args.round.now c.loop-i.i c.task_of-task.result c.task_of-task.ensures c.args.before.now
    c.requires.before

pub look-requires-clause-stands : goal.look-requires-clause-stands
look-requires-clause-stands g c _ _ =
    stands_for c.args.round.now c.loop-i.i c.task_of-task.result c.task_of-task.ensures c.args.before.now
    c.index_mut.result.now
    (λ (test : CompiledView).
    subst (λ (stage : Stage). OneStands (get_or c.args.round.now.tests.now c.loop-i.i test) c.args.round.now.width
    c.args.round.now.gap c.args.before.now stage) (sym c.index_mut.ensures.value)
    (c.loop-i.invariant.left c.loop-i.i test c.index_mut.result.now (omega arith) c.loop-i-test.true))

pub loop-i-preserved : goal.loop-i-preserved
loop-i-preserved g c =
    one_looked c.args.round.now.tests.now c.args.round.now.width c.args.round.now.gap c.args.before.now
    c.args.round.now.level.now c.loop-i.stages.items c.loop-i.i c.look.new.stage
    c.loop-i-test.true c.loop-i.invariant
    (stands_of c.args.round.now c.loop-i.i c.task_of-task.result c.task_of-task.ensures c.look.new.stage
    c.in_ok-look.ensures.stands)

pub returns : goal.returns
returns g c =
    all_looked c.args.round.now.tests.now c.args.round.now.width c.args.round.now.gap c.args.before.now
    c.args.round.now.level.now c.loop-i.stages.items c.loop-i.i (omega (arith, c.loop-i-test.false))
    c.loop-i.invariant
