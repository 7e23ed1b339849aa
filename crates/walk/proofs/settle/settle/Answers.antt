-- The end, or one level more.
use Rattle.std.proofs.Common.{◌≡◌, ℕ, ◌+◌, ◌≤◌, length, List, ap, ◌∙◌, sym, arith}
use Rattle.walk_back.specs.Counts.{others}
use Rattle.def_model.specs.Answers.{IsListOf}
use Rattle.def_model.specs.Observations.{IsAvoiding}
use Rattle.walk_back.specs.Answers.{definitely_answer_view}
use Rattle.walk_back.proofs.Ending.{both_ended, end_here, gone_on}
use Rattle.walk_back.proofs.Keeping.{few_kept, some_gap, with_held}
use Rattle.walk.specs.Tasks.{task_events, task_test}
use Rattle.walk.proofs.settle.settle.Goals as goal

pub returns-in-Some-clause-stands : goal.returns-in-Some-clause-stands
returns-in-Some-clause-stands g c =
    let listed : (cuts : List (List ℕ))
    × IsListOf (IsAvoiding (task_events c.args.task.now) (task_test c.args.task.now) c.args.task.now.level.now.number)
    cuts
    × (length cuts ≡ c.count.result) =
    c.count.ensures (task_events c.args.task.now) (task_test c.args.task.now) c.args.task.now.level.now
    c.requires.task.whole
    c.requires.marks in
    let levels : length c.args.split.held.levels.items ≤ c.args.task.now.gap =
    few_kept (task_events c.args.task.now) (task_test c.args.task.now) c.args.split.first c.args.task.now.gap
    c.args.task.now.level.now.number c.args.split.held.levels.items c.requires.task.root
    (omega (arith, c.requires.task.within)) c.requires.split.kept in
    let few : c.stand_on.new.self.most ≤ c.args.task.now.gap + 3 =
    omega (
      arith,
      c.in_ok-stand_on.ensures.most,
      c.requires.split.few,
      c.requires.task.few.few,
      c.args.task.now.wholes.now.enough,
      ap length c.requires.walked,
    ) in
    let beside : others c.stand_on.new.self ≤ 2 =
    omega (
      arith,
      c.in_ok-stand_on.ensures.beside,
      c.requires.task.few.few,
      c.args.task.now.wholes.now.enough,
      ap length c.stand_on.ensures.walked,
      ap length c.requires.walked,
    ) in
    both_ended c.definitely_walk.ensures.free (task_events c.args.task.now) (task_test c.args.task.now)
    c.args.task.now.width
    c.args.task.now.gap c.args.task.now.level.now.number
    (record { possibly = c.args.split.possibly; first = c.args.split.first; held = c.stand_on.new.self }) listed.0
    (with_held (task_events c.args.task.now) (task_test c.args.task.now) c.args.task.now.width c.args.task.now.gap
    c.args.task.now.level.now.number c.args.split c.stand_on.new.self c.requires.split c.stand_on.ensures.levels few
    beside)
    listed.1
    c.requires.task.within (some_gap _ c.args.task.now.gap c.requires.task.root)
    (record {
      some = omega (arith, c.in_ok-stand_on.ensures.most, c.requires.task.few.some);
      two = λ some. omega (arith, c.in_ok-stand_on.ensures.most, c.requires.task.few.two some);
    })
    c.answered.result c.in-Some.definitely
    (end_here listed.0 c.args.task.now.level.now.number c.args.task.now.width
    (definitely_answer_view c.in-Some.definitely) c.count.result
    c.number.result (sym listed.2) c.number.ensures c.in-Some.ensures.ends) c.answered.ensures.possibly
    c.answered.ensures.definitely c.answered.ensures.held

pub returns-in_ok-split-in-None-clause-stands : goal.returns-in_ok-split-in-None-clause-stands
returns-in_ok-split-in-None-clause-stands g c =
    let listed : (cuts : List (List ℕ))
    × IsListOf (IsAvoiding (task_events c.args.task.now) (task_test c.args.task.now) c.args.task.now.level.now.number)
    cuts
    × (length cuts ≡ c.count.result) =
    c.count.ensures (task_events c.args.task.now) (task_test c.args.task.now) c.args.task.now.level.now
    c.requires.task.whole
    c.requires.marks in
    let still : length c.stand_on.new.self.walked.items ≡ 0 =
    ap length (c.stand_on.ensures.walked ∙ c.requires.walked) in
    let beside : c.stand_on.new.self.beside ≤ 2 =
    omega (
      arith,
      c.in_ok-stand_on.ensures.beside,
      c.requires.task.few.few,
      c.args.task.now.wholes.now.enough,
    ) in (
      gone_on c.definitely_walk.ensures.short (task_events c.args.task.now) (task_test c.args.task.now)
          c.args.task.now.width
          c.args.task.now.gap c.args.task.now.level.now.number c.args.split c.in_ok-split-in-None.split listed.0
          c.requires.split
          listed.1 (omega (arith, listed.2, c.in-None.ensures.goes_on.0))
          (omega (arith, listed.2, c.in-None.ensures.goes_on.1)) c.in_ok-split-in-None.ensures.possibly
          c.in_ok-split-in-None.ensures.first c.in_ok-split-in-None.ensures.kept c.in_ok-split-in-None.ensures.few
          (omega (
            arith,
            ap length c.in_ok-split-in-None.ensures.walked,
            c.in_ok-split-in-None.ensures.beside,
          )),
      c.requires.marks,
      c.in_ok-split-in-None.ensures.walked ∙ (c.stand_on.ensures.walked ∙ c.requires.walked),
    )

pub keep-requires-clause-few : goal.keep-requires-clause-few
keep-requires-clause-few g c =
    let levels : length c.args.split.held.levels.items ≤ c.args.task.now.gap =
    few_kept (task_events c.args.task.now) (task_test c.args.task.now) c.args.split.first c.args.task.now.gap
    c.args.task.now.level.now.number c.args.split.held.levels.items c.requires.task.root
    (omega (arith, c.requires.task.within)) c.requires.split.kept in
    omega (
      arith,
      c.in_ok-stand_on.ensures.most,
      c.requires.split.few,
      c.requires.task.few.few,
      c.args.task.now.wholes.now.enough,
      ap length c.requires.walked,
    )

pub keep-requires-clause-beside : goal.keep-requires-clause-beside
keep-requires-clause-beside g c =
    omega (
      arith,
      c.in_ok-stand_on.ensures.beside,
      c.requires.task.few.few,
      c.args.task.now.wholes.now.enough,
      ap length c.stand_on.ensures.walked,
      ap length c.requires.walked,
    )

pub keep-requires-clause-kept : goal.keep-requires-clause-kept
keep-requires-clause-kept g c =
    (with_held (task_events c.args.task.now) (task_test c.args.task.now) c.args.task.now.width c.args.task.now.gap
    c.args.task.now.level.now.number c.args.split c.stand_on.new.self c.requires.split c.stand_on.ensures.levels
    (keep-requires-clause-few g c) (keep-requires-clause-beside g c)).kept
