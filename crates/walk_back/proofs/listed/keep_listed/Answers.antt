-- One level more is kept.
use Rattle.std.proofs.Common.{ℕ, refl, ◌≡◌, ◌+◌, ◌≤◌, ◌⊎◌, List, length, ap, sym, ◌∙◌, subst, arith}
use Rattle.walk_back.specs.Ways.{IsAvoidingLevel, last_number}
use Rattle.pd_level.specs.Levels.{Levelled}
use Rattle.walk_back.specs.Splits.{AreKeptBelow}
use Rattle.walk_back.proofs.Keeping.{few_kept, kept_more, some_gap}
use Rattle.walk_back.proofs.Going.{level_at}
use Rattle.walk_back.specs.Questions.{question_events, question_test}
use Rattle.walk_back.proofs.listed.keep_listed.Goals as goal

pub returns-clause-kept : goal.returns-clause-kept
returns-clause-kept g c =
    let is : IsAvoidingLevel (question_events c.args.question.now) (question_test c.args.question.now)
    c.at-level.result.now
    × (c.at-level.result.now.number ≡ last_number c.args.split.held.walked.items) =
    level_at (question_events c.args.question.now) (question_test c.args.question.now)
    (last_number c.args.split.held.walked.items) c.args.split.held.walked.items c.at-level.result.now c.requires.at
    c.at-level.ensures in
    subst (λ (levels : List Levelled).
    AreKeptBelow (question_events c.args.question.now) (question_test c.args.question.now)
    c.args.split.first c.args.question.now.gap (last_number c.args.split.held.walked.items + 1) levels)
    (sym c.in_ok-push.ensures.levels)
    (kept_more (question_events c.args.question.now) (question_test c.args.question.now)
    c.args.split.first c.args.question.now.gap (last_number c.args.split.held.walked.items)
    c.args.split.held.levels.items c.in_ok-copy.copy
    (some_gap _ c.args.question.now.gap c.args.question.now.root) c.requires.kept
    (subst (λ (l : Levelled).
    IsAvoidingLevel (question_events c.args.question.now)
    (question_test c.args.question.now) l) (sym c.in_ok-copy.ensures) is.0)
    (ap (λ (l : Levelled). l.number) c.in_ok-copy.ensures ∙ is.1)
    (subst (λ (k : ℕ).
    (length c.args.split.held.levels.items ≡ 0) ⊎ (last_number c.args.split.held.levels.items +
    c.args.question.now.gap ≡ k))
    (c.number.ensures ∙ is.1) (c.if-not-is_due.ensures.0 refl)))

pub returns-clause-few : goal.returns-clause-few
returns-clause-few g c =
    let few : length c.push.new.self.levels.items ≤ c.args.question.now.gap =
    few_kept (question_events c.args.question.now) (question_test c.args.question.now) c.args.split.first
    c.args.question.now.gap (last_number c.args.split.held.walked.items + 1) c.push.new.self.levels.items
    c.args.question.now.root (omega (arith, c.requires.within)) (returns-clause-kept g c) in
    omega (arith, c.in_ok-push.ensures.most, c.requires.few, c.requires.beside)
