-- The end, or one level more.
use Rattle.std.proofs.Common.{ap, length, ◌∙◌, arith}
use Rattle.walk_back.specs.Ways.{last_number}
use Rattle.walk_back.specs.Answers.{definitely_answer_view}
use Rattle.walk_back.proofs.Ending.{both_ended, end_here, gone_on}
use Rattle.walk_back.proofs.Keeping.{some_gap}
use Rattle.walk_back.proofs.Going.{level_at, list_here}
use Rattle.walk_back.specs.Questions.{question_events, question_test}
use Rattle.walk_back.proofs.listed.settle_listed.Goals as goal

pub returns-in-Some-clause-answered : goal.returns-in-Some-clause-answered
returns-in-Some-clause-answered g c =
    both_ended c.definitely_walk.ensures.free (question_events c.args.question.now)
    (question_test c.args.question.now) c.args.question.now.width c.args.question.now.gap
    (last_number c.args.split.held.walked.items) c.args.split c.at-level.result.now.cuts c.requires.split
    (list_here (question_events c.args.question.now) (question_test c.args.question.now)
    (last_number c.args.split.held.walked.items) c.args.split.held.walked.items c.at-level.result.now c.requires.at
    c.at-level.ensures) c.requires.within (some_gap _ c.args.question.now.gap c.args.question.now.root)
    c.requires.held c.answered.result c.in-Some.definitely
    (end_here c.at-level.result.now.cuts (last_number c.args.split.held.walked.items) c.args.question.now.width
    (definitely_answer_view c.in-Some.definitely) c.len.result c.number.result c.len.ensures
    (c.number.ensures ∙ (level_at (question_events c.args.question.now) (question_test c.args.question.now)
    (last_number c.args.split.held.walked.items) c.args.split.held.walked.items c.at-level.result.now c.requires.at
    c.at-level.ensures).1) c.in-Some.ensures.ends)
    c.answered.ensures.possibly c.answered.ensures.definitely c.answered.ensures.held

pub returns-in_ok-keep_listed-in-None-clause-on : goal.returns-in_ok-keep_listed-in-None-clause-on
returns-in_ok-keep_listed-in-None-clause-on g c =
    gone_on c.definitely_walk.ensures.short (question_events c.args.question.now)
    (question_test c.args.question.now) c.args.question.now.width c.args.question.now.gap
    (last_number c.args.split.held.walked.items) c.args.split c.in_ok-keep_listed-in-None.field-0
    c.at-level.result.now.cuts c.requires.split
    (list_here (question_events c.args.question.now) (question_test c.args.question.now)
    (last_number c.args.split.held.walked.items) c.args.split.held.walked.items c.at-level.result.now c.requires.at
    c.at-level.ensures)
    (omega (arith, c.len.ensures, c.in-None.ensures.goes_on.0))
    (omega (arith, c.len.ensures, c.in-None.ensures.goes_on.1))
    c.in_ok-keep_listed-in-None.ensures.possibly c.in_ok-keep_listed-in-None.ensures.first
    c.in_ok-keep_listed-in-None.ensures.kept c.in_ok-keep_listed-in-None.ensures.few
    (omega (
      arith,
      ap length c.in_ok-keep_listed-in-None.ensures.walked,
      c.in_ok-keep_listed-in-None.ensures.beside,
      c.requires.split.beside,
    ))
