-- One level more is kept.
use Rattle.std.proofs.Common.{ℕ, refl, ◌≡◌, ◌+◌, ◌≤◌, ◌⊎◌, List, length, sym, subst, arith}
use Rattle.def_model.specs.Answers.{IsListOf}
use Rattle.def_model.specs.Observations.{IsAvoiding}
use Rattle.walk_back.specs.Ways.{last_number}
use Rattle.pd_level.specs.Levels.{Levelled}
use Rattle.walk_back.specs.Splits.{AreKeptBelow}
use Rattle.walk_back.proofs.Keeping.{few_kept, kept_more, some_gap}
use Rattle.walk.specs.Tasks.{task_events, task_test}
use Rattle.walk.proofs.settle.keep.Goals as goal

pub to_level-requires : goal.to_level-requires
to_level-requires g c = record {
  c = task_events c.args.task.now;
  test = task_test c.args.task.now;
  short = c.requires.task.short;
  whole = c.requires.task.whole;
  marking = c.requires.marks;
}

pub returns-clause-kept : goal.returns-clause-kept
returns-clause-kept g c =
    subst (λ (levels : List Levelled).
    AreKeptBelow (task_events c.args.task.now) (task_test c.args.task.now) c.args.split.first c.args.task.now.gap
    (c.args.task.now.level.now.number + 1) levels) (sym c.in_ok-push.ensures.levels)
    (kept_more (task_events c.args.task.now) (task_test c.args.task.now) c.args.split.first c.args.task.now.gap
    c.args.task.now.level.now.number c.args.split.held.levels.items c.in_ok-to_level.field-0
    (some_gap _ c.args.task.now.gap c.requires.task.root)
    c.requires.kept
    (subst (λ (n : ℕ). IsListOf (IsAvoiding (task_events c.args.task.now) (task_test c.args.task.now) n)
    c.in_ok-to_level.field-0.cuts) (sym c.in_ok-to_level.ensures.number)
    (c.in_ok-to_level.ensures.list (task_events c.args.task.now) (task_test c.args.task.now) c.requires.task.whole
    c.requires.marks)) c.in_ok-to_level.ensures.number (subst (λ (k : ℕ).
    (length c.args.split.held.levels.items ≡ 0) ⊎ (last_number c.args.split.held.levels.items + c.args.task.now.gap ≡
    k))
    c.number.ensures (c.if-not-is_due.ensures.0 refl)))

pub returns-clause-few : goal.returns-clause-few
returns-clause-few g c =
    let few : length c.push.new.self.levels.items ≤ c.args.task.now.gap =
    few_kept (task_events c.args.task.now) (task_test c.args.task.now) c.args.split.first c.args.task.now.gap
    (c.args.task.now.level.now.number + 1) c.push.new.self.levels.items c.requires.task.root
    (omega (arith, c.requires.task.within)) (returns-clause-kept g c) in
    omega (arith, c.in_ok-push.ensures.most, c.requires.few, c.requires.beside)
