-- One predicate after the other is answered.
use Rattle.std.proofs.Common.{◌+◌, ◌*◌, ◌≤◌, Bor, List, get_or, length, ap, sym, ◌∙◌, subst, arith}
use Rattle.std.proofs.lemmas.List.{get_or_default}
use Rattle.std.specs.Prelude.{slice_set}
use Rattle.def_model.specs.Cuts.{total}
use Rattle.def_model.specs.Predicates.{test_of}
use Rattle.pd_pred.specs.Views.{predicate_view}
use Rattle.pd_pred.specs.declared.predicate.Pred.{Pred}
use Rattle.walk_runs.specs.Levels.{IsWholeLevel, WholeLevel}
use Rattle.walk_back.specs.Answers.{AreAnswers}
use Rattle.walk.specs.Stages.{AreBeside, Stands}
use Rattle.walk_back.specs.declared.answers.Answers.{Answers}
use Rattle.walk.specs.declared.stage.Stage.{Stage}
use Rattle.walk.proofs.Standing.{HaveFinished, none_finished, one_finished, only_whole}
use Rattle.walk.proofs.finish.finish_all.Goals as goal

pub loop-i-init : goal.loop-i-init
loop-i-init g c =
    subst (λ (answers : List Answers).
    HaveFinished c.args.setting.now.computation.now c.args.preds.now c.args.setting.now.width c.args.setting.now.gap
    c.args.wholes.now.most
    c.args.wholes.now.levels.items 0 c.args.stages.now.items answers) (sym c.in_ok-answers.ensures.items)
    (none_finished c.args.setting.now.computation.now c.args.preds.now c.args.setting.now.width c.args.setting.now.gap
    c.args.wholes.now.most
    c.args.wholes.now.levels.items c.args.stages.now.items c.requires.ended)

pub finish-requires-clause-level : goal.finish-requires-clause-level
finish-requires-clause-level g c _ _ =
    subst (λ (l : WholeLevel). IsWholeLevel c.args.setting.now.computation.now.events l)
    (sym (only_whole c.args.wholes.now.levels.items c.loop-i.invariant.level c.last.result.now
    c.loop-i.invariant.only c.last.ensures)) c.loop-i.invariant.whole

pub finish-requires-clause-within : goal.finish-requires-clause-within
finish-requires-clause-within g c _ _ =
    subst (λ (l : WholeLevel). l.number ≤ total c.args.setting.now.computation.now.events)
    (sym (only_whole c.args.wholes.now.levels.items c.loop-i.invariant.level c.last.result.now
    c.loop-i.invariant.only c.last.ensures)) c.loop-i.invariant.within

pub finish-requires-clause-last : goal.finish-requires-clause-last
finish-requires-clause-last g c _ _ = λ is.
    ap (λ (l : WholeLevel). l.number) (only_whole c.args.wholes.now.levels.items c.loop-i.invariant.level
    c.last.result.now c.loop-i.invariant.only c.last.ensures)
    ∙ c.loop-i.invariant.last c.loop-i.i c.index_mut.result.now (omega arith)
    (omega (arith, c.loop-i.invariant.one_each, c.loop-i-test.true))
    (sym (c.replace-stage.ensures.value ∙ c.index_mut.ensures.value) ∙ is)

pub finish-requires-clause-stands : goal.finish-requires-clause-stands
finish-requires-clause-stands g c _ _ =
    subst (λ (l : WholeLevel).
    Stands c.args.setting.now.computation.now.events (test_of c.args.setting.now.computation.now
    (predicate_view c.index-preds-i.result.now))
    c.args.setting.now.width c.args.setting.now.gap l c.replace-stage.result)
    (sym (only_whole c.args.wholes.now.levels.items c.loop-i.invariant.level c.last.result.now
    c.loop-i.invariant.only c.last.ensures))
    (subst (λ (s : Stage).
    Stands c.args.setting.now.computation.now.events (test_of c.args.setting.now.computation.now
    (predicate_view c.index-preds-i.result.now))
    c.args.setting.now.width c.args.setting.now.gap c.loop-i.invariant.level s)
    (sym (c.replace-stage.ensures.value ∙ c.index_mut.ensures.value))
    (subst (λ (p : Bor Pred).
    Stands c.args.setting.now.computation.now.events (test_of c.args.setting.now.computation.now
    (predicate_view p.now)) c.args.setting.now.width
    c.args.setting.now.gap c.loop-i.invariant.level (get_or c.loop-i.stages.items c.loop-i.i c.index_mut.result.now))
    (sym c.index-preds-i.is)
    (c.loop-i.invariant.left c.loop-i.i c.index-preds-i.result c.index_mut.result.now (omega arith)
    c.loop-i-test.true)))

pub finish-requires-clause-most : goal.finish-requires-clause-most
finish-requires-clause-most g c _ _ =
    subst (λ (l : WholeLevel). AreBeside l.number c.args.wholes.now.most)
    (sym (only_whole c.args.wholes.now.levels.items c.loop-i.invariant.level c.last.result.now
    c.loop-i.invariant.only c.last.ensures)) c.loop-i.invariant.beside

pub finish-requires-clause-one : goal.finish-requires-clause-one
finish-requires-clause-one g c _ _ = ap length c.loop-i.invariant.only

pub loop-i-preserved : goal.loop-i-preserved
loop-i-preserved g c =
    subst (λ (answers : List Answers).
    HaveFinished c.args.setting.now.computation.now c.args.preds.now c.args.setting.now.width c.args.setting.now.gap
    c.args.wholes.now.most
    c.args.wholes.now.levels.items (c.loop-i.i + 1) (slice_set c.loop-i.stages.items c.loop-i.i
    c.replace-stage.new.dest)
    answers)
    (sym c.in_ok-push.ensures.items)
    (one_finished c.args.setting.now.computation.now c.args.preds.now c.args.setting.now.width c.args.setting.now.gap
    c.args.wholes.now.most
    c.args.wholes.now.levels.items c.loop-i.i c.loop-i.stages.items c.loop-i.answers.items c.replace-stage.new.dest
    c.in_ok-finish.field-0 c.loop-i.invariant
    (λ pred. subst (λ (p : Bor Pred).
    AreAnswers c.args.setting.now.computation.now.events (test_of c.args.setting.now.computation.now
    (predicate_view p.now)) c.args.setting.now.width
    (2 * c.args.setting.now.gap + 2) c.in_ok-finish.field-0)
    (c.index-preds-i.is ∙ get_or_default c.args.preds.now c.loop-i.i c.index-preds-i.result pred c.loop-i-test.true)
    c.in_ok-finish.ensures.right))
