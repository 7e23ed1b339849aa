-- The walk from level 0 to the last level that is needed.
use Rattle.std.proofs.Common.{◌≡◌, ◌++◌, [], ◌∷◌, ℕ, List, length, get_or, refl, ap, sym, ◌∙◌, subst, arith}
use Rattle.def_model.specs.Events.{Computation}
use Rattle.walk_marks.specs.SkippedRuns.{AreSkipped}
use Rattle.walk_runs.specs.Levels.{IsWholeLevel, WholeLevel}
use Rattle.walk_tables.specs.Views.{CompiledView}
use Rattle.walk.specs.Stages.{AllStand, AreBeside, AreFor}
use Rattle.walk.specs.declared.stage.Stage.{Stage}
use Rattle.walk.proofs.Standing.{beside_one, come_first, come_to_end, number_read, only_whole}
use Rattle.walk.proofs.walk.walk_up.Goals as goal

pub first-requires-2 : goal.first-requires-2
first-requires-2 g c =
    let only : c.push.new.self.levels.items ≡ c.in_ok-first.field-0 ∷ [] =
    c.in_ok-push.ensures.levels
    ∙ ap (λ (ls : List WholeLevel). ls ++ c.in_ok-first.field-0 ∷ []) c.requires.empty in
    let read : c.last-first.result.now ≡ c.in_ok-first.field-0 =
    only_whole c.push.new.self.levels.items c.in_ok-first.field-0 c.last-first.result.now only c.last-first.ensures in
    record {
      c = c.args.setting.now.computation.now.events;
      whole =
          subst (λ (l : WholeLevel). IsWholeLevel c.args.setting.now.computation.now.events l) (sym read)
          (subst (λ (e : Computation). IsWholeLevel e c.in_ok-first.field-0) c.in_ok-steps.ensures
          c.in_ok-first.ensures.level);
    }

pub look_first-requires-clause-number : goal.look_first-requires-clause-number
look_first-requires-clause-number g c _ _ =
    let only : c.push.new.self.levels.items ≡ c.in_ok-first.field-0 ∷ [] =
    c.in_ok-push.ensures.levels
    ∙ ap (λ (ls : List WholeLevel). ls ++ c.in_ok-first.field-0 ∷ []) c.requires.empty in
    let read : c.last-first.result.now ≡ c.in_ok-first.field-0 =
    only_whole c.push.new.self.levels.items c.in_ok-first.field-0 c.last-first.result.now only c.last-first.ensures in
    ap (λ (l : WholeLevel). l.number) read ∙ c.in_ok-first.ensures.number

pub look_first-requires-clause-round : goal.look_first-requires-clause-round
look_first-requires-clause-round g c _ _ =
    let only : c.push.new.self.levels.items ≡ c.in_ok-first.field-0 ∷ [] =
    c.in_ok-push.ensures.levels
    ∙ ap (λ (ls : List WholeLevel). ls ++ c.in_ok-first.field-0 ∷ []) c.requires.empty in
    let read : c.last-first.result.now ≡ c.in_ok-first.field-0 =
    only_whole c.push.new.self.levels.items c.in_ok-first.field-0 c.last-first.result.now only c.last-first.ensures in
    let number : c.last-first.result.now.number ≡ 0 =
    ap (λ (l : WholeLevel). l.number) read ∙ c.in_ok-first.ensures.number in
    record {
      tests_for =
          subst (λ (tests : List CompiledView). AreFor c.args.setting.now.computation.now tests)
          (sym c.deref-2.ensures.value) c.in_ok-tests.ensures.same;
      whole =
          subst (λ (l : WholeLevel). IsWholeLevel c.args.setting.now.computation.now.events l) (sym read)
          (subst (λ (e : Computation). IsWholeLevel e c.in_ok-first.field-0) c.in_ok-steps.ensures
          c.in_ok-first.ensures.level);
      within = omega (arith, number);
      narrow = c.args.setting.now.narrow;
      root = c.args.setting.now.root;
      few =
          subst (λ (n : ℕ). AreBeside n c.push.new.self.most) (sym number)
          (beside_one c.push.new.self.most
          (omega (arith, c.in_ok-push.ensures.most, c.requires.none, ap length only)));
      skipped =
          subst (λ (tests : List CompiledView). AreSkipped tests c.last-first.result.now c.in_ok-skipped.skipped)
          (c.deref.ensures.value ∙ sym c.deref-2.ensures.value) c.in_ok-skipped.ensures;
      some_threads = c.count.ensures;
    }

pub loop-steps-init : goal.loop-steps-init
loop-steps-init g c =
    let only : c.push.new.self.levels.items ≡ c.in_ok-first.field-0 ∷ [] =
    c.in_ok-push.ensures.levels
    ∙ ap (λ (ls : List WholeLevel). ls ++ c.in_ok-first.field-0 ∷ []) c.requires.empty in
    come_first c.args.setting.now.computation.now.events c.in_ok-tests.tests.items c.args.setting.now.width
    c.args.setting.now.gap
    c.push.new.self.most c.push.new.self.levels.items c.last-first.result.now c.in_ok-first.field-0
    c.in_ok-skipped.skipped c.in_ok-stages.stages.items only
    (subst (λ (e : Computation). IsWholeLevel e c.in_ok-first.field-0) c.in_ok-steps.ensures
    c.in_ok-first.ensures.level) c.in_ok-first.ensures.number
    (beside_one c.push.new.self.most
    (omega (arith, c.in_ok-push.ensures.most, c.requires.none, ap length only))) c.last-first.ensures
    (subst (λ (tests : List CompiledView). AreSkipped tests c.last-first.result.now c.in_ok-skipped.skipped)
    c.deref.ensures.value c.in_ok-skipped.ensures)
    (subst (λ (tests : List CompiledView).
    AllStand tests c.args.setting.now.width c.args.setting.now.gap c.last-first.result.now
    c.in_ok-stages.stages.items) c.deref-2.ensures.value c.in_ok-stages.ensures)

pub step_up-requires-clause-below : goal.step_up-requires-clause-below
step_up-requires-clause-below g c _ _ =
    let low = c.loop-steps-test.ensures.low refl in
    omega (
      arith,
      low,
      c.total-total.ensures.sum,
      number_read c.loop-steps.wholes.levels.items c.loop-steps.invariant.level c.last.result.now
          c.loop-steps.invariant.only c.last.ensures,
    )

pub returns : goal.returns
returns g c =
    come_to_end c.args.setting.now.computation.now c.args.preds.now c.in_ok-tests.tests.items
    c.args.setting.now.width c.args.setting.now.gap c.loop-steps.wholes.most c.loop-steps.wholes.levels.items
    c.loop-steps.skipped c.loop-steps.stages.items c.in_ok-tests.ensures c.loop-steps.invariant
    (λ i stage lt is.
    let up = c.loop-steps-test.ensures.last refl i stage
    (omega (arith, ap length c.deref-in-loop-steps.ensures.value))
    (ap (λ (stages : List Stage). get_or stages i stage) c.deref-in-loop-steps.ensures.value ∙ is) in
    omega (
      arith,
      c.total-total.ensures.sum,
      number_read c.loop-steps.wholes.levels.items c.loop-steps.invariant.level c.last.result.now
          c.loop-steps.invariant.only c.last.ensures,
    ))
