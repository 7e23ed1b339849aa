-- The next whole level in place of the one before it.
use Rattle.std.proofs.Common.{◌≡◌, ◌+◌, ◌++◌, [], ◌∷◌, ℕ, List, length, max, ap, sym, ◌∙◌, subst, arith}
use Rattle.def_model.specs.Events.{Computation}
use Rattle.walk_marks.specs.SkippedRuns.{AreSkipped}
use Rattle.walk_runs.specs.Levels.{IsWholeLevel, WholeLevel}
use Rattle.walk.specs.Stages.{AllStand, AreBeside, number_held}
use Rattle.walk.proofs.Standing.{beside_two, come_next, lower_whole, next_only, number_read, only_whole, upper_whole}
use Rattle.walk.proofs.walk.step_up.Goals as goal

pub next-requires-clause-room : goal.next-requires-clause-room
next-requires-clause-room g c =
    let number : c.last.result.now.number ≡ number_held c.args.wholes.now.levels.items =
    number_read c.args.wholes.now.levels.items c.requires.come.level c.last.result.now c.requires.come.only
    c.last.ensures in
    omega (arith, number, c.requires.below, c.args.setting.now.small)

pub next-requires-clause-level : goal.next-requires-clause-level
next-requires-clause-level g c =
    let held : c.last.result.now ≡ c.requires.come.level =
    only_whole c.args.wholes.now.levels.items c.requires.come.level c.last.result.now c.requires.come.only
    c.last.ensures in
    subst (λ (e : Computation). IsWholeLevel e c.last.result.now) (sym c.requires.steps)
    (subst (λ (l : WholeLevel). IsWholeLevel c.args.setting.now.computation.now.events l) (sym held)
    c.requires.come.whole)

pub next-requires-2-clause-before : goal.next-requires-2-clause-before
next-requires-2-clause-before g c _ _ =
    let lower : c.last_but_one-before.result.now ≡ c.requires.come.level =
    lower_whole c.args.wholes.now.levels.items c.push.new.self.levels.items c.requires.come.level c.in_ok-next.next
    c.last_but_one-before.result.now c.requires.come.only c.in_ok-push.ensures.levels c.last_but_one-before.ensures in
    record {
      c = c.args.setting.now.computation.now.events;
      whole =
          subst (λ (l : WholeLevel). IsWholeLevel c.args.setting.now.computation.now.events l) (sym lower)
          c.requires.come.whole;
    }

pub next-requires-2-clause-level : goal.next-requires-2-clause-level
next-requires-2-clause-level g c _ _ =
    let upper : c.last-level.result.now ≡ c.in_ok-next.next =
    upper_whole c.args.wholes.now.levels.items c.push.new.self.levels.items c.requires.come.level c.in_ok-next.next
    c.last-level.result.now c.requires.come.only c.in_ok-push.ensures.levels c.last-level.ensures in
    record {
      c = c.args.setting.now.computation.now.events;
      whole =
          subst (λ (l : WholeLevel). IsWholeLevel c.args.setting.now.computation.now.events l) (sym upper)
          (subst (λ (e : Computation). IsWholeLevel e c.in_ok-next.next) c.requires.steps c.in_ok-next.ensures.level);
    }

pub next-requires-2-clause-processes : goal.next-requires-2-clause-processes
next-requires-2-clause-processes g c _ _ =
    let lower : c.last_but_one-before.result.now ≡ c.requires.come.level =
    lower_whole c.args.wholes.now.levels.items c.push.new.self.levels.items c.requires.come.level c.in_ok-next.next
    c.last_but_one-before.result.now c.requires.come.only c.in_ok-push.ensures.levels c.last_but_one-before.ensures in
    let upper : c.last-level.result.now ≡ c.in_ok-next.next =
    upper_whole c.args.wholes.now.levels.items c.push.new.self.levels.items c.requires.come.level c.in_ok-next.next
    c.last-level.result.now c.requires.come.only c.in_ok-push.ensures.levels c.last-level.ensures in
    ap (λ (l : WholeLevel). l.processes) lower ∙ c.requires.come.whole.processes
    ∙ ap (λ (e : Computation). length e) (sym c.requires.steps) ∙ sym c.in_ok-next.ensures.level.processes
    ∙ ap (λ (l : WholeLevel). l.processes) (sym upper)

pub next-requires-2-clause-skipped : goal.next-requires-2-clause-skipped
next-requires-2-clause-skipped g c _ _ =
    let lower : c.last_but_one-before.result.now ≡ c.requires.come.level =
    lower_whole c.args.wholes.now.levels.items c.push.new.self.levels.items c.requires.come.level c.in_ok-next.next
    c.last_but_one-before.result.now c.requires.come.only c.in_ok-push.ensures.levels c.last_but_one-before.ensures in
    subst (λ (l : WholeLevel). AreSkipped c.args.tests.now l c.args.skipped.now) (sym lower)
    c.requires.come.skipped

pub look_all-requires-clause-round : goal.look_all-requires-clause-round
look_all-requires-clause-round g c _ _ =
    let number : c.last.result.now.number ≡ number_held c.args.wholes.now.levels.items =
    number_read c.args.wholes.now.levels.items c.requires.come.level c.last.result.now c.requires.come.only
    c.last.ensures in
    let upper : c.last-level.result.now ≡ c.in_ok-next.next =
    upper_whole c.args.wholes.now.levels.items c.push.new.self.levels.items c.requires.come.level c.in_ok-next.next
    c.last-level.result.now c.requires.come.only c.in_ok-push.ensures.levels c.last-level.ensures in
    let two : length c.push.new.self.levels.items ≡ 2 =
    ap length (c.in_ok-push.ensures.levels
    ∙ ap (λ (ls : List WholeLevel). ls ++ c.in_ok-next.next ∷ []) c.requires.come.only) in
    let next : c.last-level.result.now.number ≡ c.requires.come.level.number + 1 =
    ap (λ (l : WholeLevel). l.number) upper
    ∙ (c.in_ok-next.ensures.number
    ∙ ap (λ (n : ℕ). n + 1) (number ∙ ap number_held c.requires.come.only)) in
    record {
      tests_for = c.requires.tests;
      whole =
          subst (λ (l : WholeLevel). IsWholeLevel c.args.setting.now.computation.now.events l) (sym upper)
          (subst (λ (e : Computation). IsWholeLevel e c.in_ok-next.next) c.requires.steps c.in_ok-next.ensures.level);
      within = omega (arith, next, ap number_held c.requires.come.only, c.requires.below);
      narrow = c.args.setting.now.narrow;
      root = c.args.setting.now.root;
      few =
          subst (λ (n : ℕ). AreBeside n c.push.new.self.most) (sym next)
          (beside_two c.requires.come.level.number c.args.wholes.now.most c.push.new.self.most c.requires.come.beside
          (c.in_ok-push.ensures.most ∙ ap (λ (n : ℕ). max c.args.wholes.now.most n) two));
      skipped = c.in_ok-after.ensures;
      some_threads = c.count-threads.ensures;
    }

pub look_all-requires-clause-before : goal.look_all-requires-clause-before
look_all-requires-clause-before g c _ _ =
    let held : c.last.result.now ≡ c.requires.come.level =
    only_whole c.args.wholes.now.levels.items c.requires.come.level c.last.result.now c.requires.come.only
    c.last.ensures in
    let lower : c.last_but_one-before.result.now ≡ c.requires.come.level =
    lower_whole c.args.wholes.now.levels.items c.push.new.self.levels.items c.requires.come.level c.in_ok-next.next
    c.last_but_one-before.result.now c.requires.come.only c.in_ok-push.ensures.levels c.last_but_one-before.ensures in
    let upper : c.last-level.result.now ≡ c.in_ok-next.next =
    upper_whole c.args.wholes.now.levels.items c.push.new.self.levels.items c.requires.come.level c.in_ok-next.next
    c.last-level.result.now c.requires.come.only c.in_ok-push.ensures.levels c.last-level.ensures in
    record {
      whole =
          subst (λ (l : WholeLevel). IsWholeLevel c.args.setting.now.computation.now.events l) (sym lower)
          c.requires.come.whole;
      number =
          ap (λ (l : WholeLevel). l.number) upper
          ∙ (c.in_ok-next.ensures.number ∙ ap (λ (l : WholeLevel). l.number + 1) (held ∙ sym lower));
    }

pub look_all-requires-clause-stand : goal.look_all-requires-clause-stand
look_all-requires-clause-stand g c _ _ =
    let lower : c.last_but_one-before.result.now ≡ c.requires.come.level =
    lower_whole c.args.wholes.now.levels.items c.push.new.self.levels.items c.requires.come.level c.in_ok-next.next
    c.last_but_one-before.result.now c.requires.come.only c.in_ok-push.ensures.levels c.last_but_one-before.ensures in
    subst (λ (l : WholeLevel). AllStand c.args.tests.now c.args.setting.now.width c.args.setting.now.gap l
    c.args.stages.now.items) (sym lower) c.requires.come.stand

pub returns-clause-come : goal.returns-clause-come
returns-clause-come g c =
    let number : c.last.result.now.number ≡ number_held c.args.wholes.now.levels.items =
    number_read c.args.wholes.now.levels.items c.requires.come.level c.last.result.now c.requires.come.only
    c.last.ensures in
    let two : length c.push.new.self.levels.items ≡ 2 =
    ap length (c.in_ok-push.ensures.levels
    ∙ ap (λ (ls : List WholeLevel). ls ++ c.in_ok-next.next ∷ []) c.requires.come.only) in
    come_next c.args.setting.now.computation.now.events c.args.tests.now c.args.setting.now.width c.args.setting.now.gap
    c.args.wholes.now.most c.drop_last_but_one.new.self.most c.args.wholes.now.levels.items
    c.push.new.self.levels.items c.drop_last_but_one.new.self.levels.items c.in_ok-next.next c.args.skipped.now
    c.in_ok-after.after c.args.stages.now.items c.look_all.new.stages.items c.requires.come
    c.in_ok-push.ensures.levels c.drop_last_but_one.ensures.levels c.last-level.result.now c.requires.below
    (subst (λ (e : Computation). IsWholeLevel e c.in_ok-next.next) c.requires.steps c.in_ok-next.ensures.level)
    (c.in_ok-next.ensures.number ∙ ap (λ (n : ℕ). n + 1) number)
    (beside_two (number_held c.args.wholes.now.levels.items) c.args.wholes.now.most
    c.drop_last_but_one.new.self.most
    (subst (λ (n : ℕ). AreBeside n c.args.wholes.now.most)
    (sym (ap number_held c.requires.come.only)) c.requires.come.beside)
    (c.drop_last_but_one.ensures.most
    ∙ (c.in_ok-push.ensures.most ∙ ap (λ (n : ℕ). max c.args.wholes.now.most n) two))) c.last-level.ensures
    c.in_ok-after.ensures c.in_ok-look_all.ensures

pub returns-clause-number : goal.returns-clause-number
returns-clause-number g c =
    let number : c.last.result.now.number ≡ number_held c.args.wholes.now.levels.items =
    number_read c.args.wholes.now.levels.items c.requires.come.level c.last.result.now c.requires.come.only
    c.last.ensures in
    ap number_held (next_only c.args.setting.now.computation.now.events c.args.tests.now c.args.setting.now.width
    c.args.setting.now.gap
    c.args.wholes.now.most c.drop_last_but_one.new.self.most c.args.wholes.now.levels.items
    c.push.new.self.levels.items c.drop_last_but_one.new.self.levels.items c.in_ok-next.next c.args.skipped.now
    c.in_ok-after.after c.args.stages.now.items c.look_all.new.stages.items c.requires.come
    c.in_ok-push.ensures.levels c.drop_last_but_one.ensures.levels)
    ∙ (c.in_ok-next.ensures.number ∙ ap (λ (n : ℕ). n + 1) number)
