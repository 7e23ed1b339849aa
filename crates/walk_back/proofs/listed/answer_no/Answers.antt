-- The answers, if the full cut avoids.
use Rattle.std.proofs.Common.{◌+◌, ◌<◌, ◌≤◌, ap, length, sym, subst, arith}
use Rattle.def_model.specs.Answers.{IsDefinitelyAnswer, IsPossiblyAnswer}
use Rattle.def_model.specs.Cuts.{total}
use Rattle.walk_back.specs.Answers.{definitely_answer_view, possibly_answer_view}
use Rattle.walk_back.specs.declared.definitely_answer.DefinitelyAnswer.{DefinitelyAnswer}
use Rattle.walk_back.specs.declared.possibly_answer.PossiblyAnswer.{PossiblyAnswer}
use Rattle.walk_back.specs.Ways.{AreKept}
use Rattle.walk_back.proofs.Ending.{no_past}
use Rattle.walk_back.proofs.Keeping.{few_kept, some_gap}
use Rattle.walk_back.proofs.Going.{full_avoids, kept_to}
use Rattle.walk_back.specs.Questions.{question_events, question_test}
use Rattle.walk_back.proofs.listed.answer_no.Goals as goal

pub way_back-requires-clause-full : goal.way_back-requires-clause-full
way_back-requires-clause-full g c _ _ =
    full_avoids c.avoiding_levels.ensures.level c.levels.ensures.full (question_events c.args.question.now)
    (question_test c.args.question.now) c.requires.split.avoided

pub way_back-requires-clause-kept : goal.way_back-requires-clause-kept
way_back-requires-clause-kept g c _ _ =
    subst (AreKept (question_events c.args.question.now) (question_test c.args.question.now) c.args.split.first
    c.args.question.now.gap (total (question_events c.args.question.now))) (sym c.end_walk.ensures.levels)
    (kept_to (question_events c.args.question.now) (question_test c.args.question.now) c.args.split.first
    c.args.question.now.gap (total (question_events c.args.question.now)) c.args.split.held.levels.items
    c.requires.split.kept)

pub returns-clause-right : goal.returns-clause-right
returns-clause-right g c =
    let few : length c.args.split.held.levels.items ≤ c.args.question.now.gap =
    few_kept (question_events c.args.question.now) (question_test c.args.question.now) c.args.split.first
    c.args.question.now.gap (total (question_events c.args.question.now) + 1) c.args.split.held.levels.items
    c.args.question.now.root (omega arith) c.requires.split.kept in
    let some : 0 < c.args.question.now.gap =
    some_gap (total (question_events c.args.question.now)) c.args.question.now.gap c.args.question.now.root in
    record {
      possibly_right = subst (λ (a : PossiblyAnswer). IsPossiblyAnswer (question_events c.args.question.now)
          (question_test c.args.question.now) c.args.question.now.width (possibly_answer_view a))
          (sym c.answered.ensures.possibly) c.requires.split.possibly;
      definitely_right = subst (λ (a : DefinitelyAnswer). IsDefinitelyAnswer (question_events c.args.question.now)
          (question_test c.args.question.now) c.args.question.now.width (definitely_answer_view a))
          (sym c.answered.ensures.definitely)
          (c.definitely_walk.ensures.path (question_events c.args.question.now)
          (question_test c.args.question.now) c.args.question.now.width
          (total (question_events c.args.question.now) + 1) c.requires.split.narrow (omega arith)
          c.in_ok-path.path.items
          c.in_ok-path.ensures.path);
      few = omega (
        arith,
        c.answered.ensures.held,
        c.in_ok-path.ensures.most,
        c.end_walk.ensures.most,
        ap length c.end_walk.ensures.levels,
        ap length c.end_walk.ensures.walked,
        c.end_walk.ensures.beside,
        c.requires.one,
        c.requires.split.few,
        c.requires.split.beside,
      );
      some = omega (
        arith,
        c.answered.ensures.held,
        c.in_ok-path.ensures.no_fewer,
        c.end_walk.ensures.most,
        c.requires.held.some,
      );
      past_first = λ past.
          let two : 2 ≤ c.args.split.held.most =
          c.requires.held.two (no_past (question_events c.args.question.now) c.in_ok-path.path
          c.answered.result.definitely
          c.answered.ensures.definitely past) in
          omega (arith, c.answered.ensures.held, c.in_ok-path.ensures.no_fewer, c.end_walk.ensures.most);
    }
