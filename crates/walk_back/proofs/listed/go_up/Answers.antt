-- The next level in place of the one before it.
use Rattle.std.proofs.Common.{◌≡◌, ◌∙◌, ap, ◌+◌, ℕ, ◌≤◌, List, length, [], ◌∷◌, ◌++◌, take, drop, ◌-◌, arith}
use Rattle.pd_level.specs.Levels.{Levelled}
use Rattle.walk_back.proofs.Keeping.{few_kept, with_held}
use Rattle.walk_back.proofs.Going.{level_at, next_at}
use Rattle.walk_back.specs.Questions.{question_events, question_test}
use Rattle.walk_back.proofs.listed.go_up.Goals as goal

pub next_listed-requires-clause-list : goal.next_listed-requires-clause-list
next_listed-requires-clause-list g c _ _ =
    (level_at (question_events c.args.question.now) (question_test c.args.question.now) c.args.k
    c.args.split.held.walked.items c.at.result.now c.requires.at c.at.ensures).0

pub next_listed-requires-clause-low : goal.next_listed-requires-clause-low
next_listed-requires-clause-low g c _ _ =
    omega (
      arith,
      c.requires.low,
      (level_at (question_events c.args.question.now) (question_test c.args.question.now) c.args.k
          c.args.split.held.walked.items c.at.result.now c.requires.at c.at.ensures).1,
    )

pub returns-clause-at : goal.returns-clause-at
returns-clause-at g c =
    next_at (question_events c.args.question.now) (question_test c.args.question.now) c.args.k
    c.args.split.held.walked.items c.walk.new.self.walked.items c.leave.new.self.walked.items c.in_ok-next.next
    c.requires.at c.in_ok-walk.ensures.walked c.leave.ensures.walked c.in_ok-next.ensures.list
    (c.in_ok-next.ensures.number
    ∙ ap (λ (n : ℕ). n + 1) (level_at (question_events c.args.question.now) (question_test c.args.question.now)
    c.args.k c.args.split.held.walked.items c.at.result.now c.requires.at c.at.ensures).1)

pub returns-clause-split : goal.returns-clause-split
returns-clause-split g c =
    let one : length c.args.split.held.walked.items ≡ 1 = ap length c.requires.at.1 in
    let two : length c.walk.new.self.walked.items ≡ 2 =
    ap length (c.in_ok-walk.ensures.walked
    ∙ ap (λ (ls : List Levelled). ls ++ c.in_ok-next.next ∷ []) c.requires.at.1) in
    let after : length c.leave.new.self.walked.items ≡ 1 =
    ap length (c.leave.ensures.walked
    ∙ ap (λ (ls : List Levelled). take (length ls - 2) ls ++ drop (length ls - 1) ls) (c.in_ok-walk.ensures.walked
    ∙ ap (λ (ls : List Levelled). ls ++ c.in_ok-next.next ∷ []) c.requires.at.1)) in
    let few : length c.args.split.held.levels.items ≤ c.args.question.now.gap =
    few_kept (question_events c.args.question.now) (question_test c.args.question.now) c.args.split.first
    c.args.question.now.gap (c.args.k + 1) c.args.split.held.levels.items c.args.question.now.root
    (omega (arith, c.requires.within)) c.requires.split.kept in
    with_held (question_events c.args.question.now) (question_test c.args.question.now) c.args.question.now.width
    c.args.question.now.gap (c.args.k + 1) c.args.split c.leave.new.self c.requires.split
    (c.leave.ensures.levels ∙ c.walk.ensures.levels)
    (omega (
      arith,
      c.leave.ensures.most,
      c.in_ok-walk.ensures.most,
      c.requires.split.few,
      c.requires.split.beside,
    ))
    (omega (arith, c.leave.ensures.beside, c.walk.ensures.beside, c.requires.split.beside))

pub returns-clause-two : goal.returns-clause-two
returns-clause-two g c =
    let two : length c.walk.new.self.walked.items ≡ 2 =
    ap length (c.in_ok-walk.ensures.walked
    ∙ ap (λ (ls : List Levelled). ls ++ c.in_ok-next.next ∷ []) c.requires.at.1) in
    omega (arith, c.leave.ensures.most, c.in_ok-walk.ensures.most)

pub leave-requires : goal.leave-requires
leave-requires g c =
    let two : length c.walk.new.self.walked.items ≡ 2 =
    ap length (c.in_ok-walk.ensures.walked
    ∙ ap (λ (ls : List Levelled). ls ++ c.in_ok-next.next ∷ []) c.requires.at.1) in
    omega arith
