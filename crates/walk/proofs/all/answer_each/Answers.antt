-- One answer more.
use Rattle.std.proofs.Common.{◌≡◌, ◌+◌, ◌*◌, ℕ, Bor, ◌++◌, [], ◌∷◌, List, get_or, length, length-append, ap, sym, ◌∙◌, subst, arith}
use Rattle.std.proofs.lemmas.List.{get_or_default}
use Rattle.def_model.specs.Predicates.{test_of}
use Rattle.pd_pred.specs.Views.{predicate_view}
use Rattle.pd_pred.specs.declared.predicate.Pred.{Pred}
use Rattle.walk_back.specs.Answers.{AreAnswers}
use Rattle.walk_back.specs.declared.answers.Answers.{Answers}
use Rattle.walk.proofs.Standing.{each_more}
use Rattle.walk.proofs.all.answer_each.Goals as goal

pub loop-i-preserved : goal.loop-i-preserved
loop-i-preserved g c =
    let pushed : c.push.new.self.items ≡ c.loop-i.answers.items ++ c.in_ok-answers_by_lists.field-0 ∷ [] =
    c.in_ok-push.ensures.items in
    record {
      one_each =
          ap length pushed
          ∙ (length-append c.loop-i.answers.items (c.in_ok-answers_by_lists.field-0 ∷ [])
          ∙ ap (λ (n : ℕ). n + 1) c.loop-i.invariant.one_each);
      each = λ j pred answer lt.
          subst (λ (answers : List Answers). AreAnswers c.args.computation.now.events
          (test_of c.args.computation.now (predicate_view (get_or c.args.preds.now j pred).now)) c.args.width
          (2 * c.args.gap + 2) (get_or answers j answer)) (sym pushed)
          (each_more c.loop-i.answers.items c.in_ok-answers_by_lists.field-0
          (λ n at. AreAnswers c.args.computation.now.events
          (test_of c.args.computation.now (predicate_view (get_or c.args.preds.now n pred).now)) c.args.width
          (2 * c.args.gap + 2) at)
          (λ n d low. c.loop-i.invariant.each n pred d (omega (arith, c.loop-i.invariant.one_each)))
          (subst (λ (n : ℕ). AreAnswers c.args.computation.now.events
          (test_of c.args.computation.now (predicate_view (get_or c.args.preds.now n pred).now)) c.args.width
          (2 * c.args.gap + 2) c.in_ok-answers_by_lists.field-0) (sym c.loop-i.invariant.one_each)
          (subst (λ (p : Bor Pred). AreAnswers c.args.computation.now.events
          (test_of c.args.computation.now (predicate_view p.now)) c.args.width (2 * c.args.gap + 2)
          c.in_ok-answers_by_lists.field-0)
          (c.index-preds-i.is
          ∙ get_or_default c.args.preds.now c.loop-i.i c.index-preds-i.result pred c.loop-i-test.true)
          c.in_ok-answers_by_lists.ensures)) j answer (omega (arith, c.loop-i.invariant.one_each)));
    }
