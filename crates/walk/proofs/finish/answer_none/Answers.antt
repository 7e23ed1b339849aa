-- The answers, if no cut satisfies.
use Rattle.std.proofs.Common.{ap, length, sym, subst, ◌+◌, ◌∙◌, arith}
use Rattle.walk_back.specs.Answers.{definitely_answer_view, possibly_answer_view}
use Rattle.walk_back.specs.declared.definitely_answer.DefinitelyAnswer.{DefinitelyAnswer}
use Rattle.walk_back.specs.declared.possibly_answer.PossiblyAnswer.{PossiblyAnswer}
use Rattle.walk_back.proofs.Ending.{no_past}
use Rattle.def_model.specs.Answers.{IsDefinitelyAnswer, IsPossiblyAnswer}
use Rattle.def_model.specs.Cuts.{total}
use Rattle.def_model.specs.Predicates.{test_of}
use Rattle.pd_pred.specs.Views.{predicate_view}
use Rattle.walk_back.proofs.Going.{full_avoids}
use Rattle.walk.proofs.Opening.{open_avoided, open_narrow}
use Rattle.walk.proofs.finish.answer_none.Goals as goal

pub way_back-requires-clause-none_below : goal.way_back-requires-clause-none_below
way_back-requires-clause-none_below g c _ _ = λ j cut lt level.
    c.requires.opened.none j cut (omega (arith, c.total.ensures.sum)) level

pub way_back-requires-clause-full : goal.way_back-requires-clause-full
way_back-requires-clause-full g c _ _ =
    full_avoids c.avoiding_levels.ensures.level c.levels.ensures.full c.args.setting.now.computation.now.events
    (test_of c.args.setting.now.computation.now (predicate_view c.args.pred.now))
    (open_avoided c.avoidance.ensures.all c.args.setting.now.computation.now.events c.limits.ensures.acyclic
    (test_of c.args.setting.now.computation.now (predicate_view c.args.pred.now)) c.args.setting.now.width
    (total c.args.setting.now.computation.now.events + 1) c.requires.opened (omega arith))

pub returns : goal.returns
returns g c =
    record {
      possibly_right = subst (λ (a : PossiblyAnswer). IsPossiblyAnswer c.args.setting.now.computation.now.events
          (test_of c.args.setting.now.computation.now (predicate_view c.args.pred.now)) c.args.setting.now.width
          (possibly_answer_view a)) (sym c.answered.ensures.possibly)
          (c.possibly_walk.ensures.none c.args.setting.now.computation.now.events
          (test_of c.args.setting.now.computation.now (predicate_view c.args.pred.now)) c.args.setting.now.width
          (total c.args.setting.now.computation.now.events + 1) c.requires.opened.narrow c.requires.opened.none
          (omega arith));
      definitely_right = subst (λ (a : DefinitelyAnswer).
          IsDefinitelyAnswer c.args.setting.now.computation.now.events
          (test_of c.args.setting.now.computation.now (predicate_view c.args.pred.now)) c.args.setting.now.width
          (definitely_answer_view a)) (sym c.answered.ensures.definitely)
          (c.definitely_walk.ensures.path c.args.setting.now.computation.now.events
          (test_of c.args.setting.now.computation.now (predicate_view c.args.pred.now)) c.args.setting.now.width
          (total c.args.setting.now.computation.now.events + 1)
          (open_narrow c.avoidance.ensures.all c.args.setting.now.computation.now.events c.limits.ensures.acyclic
          (test_of c.args.setting.now.computation.now (predicate_view c.args.pred.now)) c.args.setting.now.width
          (total c.args.setting.now.computation.now.events + 1) c.requires.opened) (omega arith) c.in_ok-path.path.items
          c.in_ok-path.ensures.path);
      few = omega (
        arith,
        c.answered.ensures.held,
        c.in_ok-path.ensures.most,
        c.in_ok-stand_on.ensures.most,
        c.in_ok-stand_on.ensures.beside,
        ap length (c.stand_on.ensures.levels ∙ c.new.ensures.levels),
        ap length (c.stand_on.ensures.walked ∙ c.new.ensures.walked),
        ap length c.new.ensures.levels,
        ap length c.new.ensures.walked,
        c.new.ensures.most,
        c.requires.one,
        c.requires.most.few,
      );
      some = omega (
        arith,
        c.answered.ensures.held,
        c.in_ok-path.ensures.no_fewer,
        c.in_ok-stand_on.ensures.most,
        c.requires.most.some,
      );
      past_first = λ past.
          let two = c.requires.most.two (no_past c.args.setting.now.computation.now.events c.in_ok-path.path
          c.answered.result.definitely c.answered.ensures.definitely past) in
          omega (arith, c.answered.ensures.held, c.in_ok-path.ensures.no_fewer, c.in_ok-stand_on.ensures.most);
    }
