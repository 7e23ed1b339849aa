-- The answers, whichever way they are found.
use Rattle.std.proofs.Common.{ℕ, ◌+◌, ◌*◌, subst}
use Rattle.def_model.specs.Cuts.{total}
use Rattle.walk_back.specs.Answers.{IsLeastRoot}
use Rattle.walk.specs.Stages.{AllAnswered}
use Rattle.walk_back.proofs.Roots.{one_root}
use Rattle.walk.proofs.all.answer_within.Goals as goal

pub returns-then-processes-lt2-clause-few : goal.returns-then-processes-lt2-clause-few
returns-then-processes-lt2-clause-few g c s root =
    subst (λ (r : ℕ). AllAnswered c.args.computation.now c.args.preds.now c.args.width (2 * r + 2)
    c.in_ok-answers.answers.items)
    (one_root c.least_root-gap.result s (total c.args.computation.now.events + 1)
    (subst (λ (n : ℕ). IsLeastRoot c.least_root-gap.result (n + 1)) c.total.ensures.sum c.least_root-gap.ensures.root)
    root) c.in_ok-answers.ensures

pub returns-then-processes-le-SINGLE_LIMIT-clause-few : goal.returns-then-processes-le-SINGLE_LIMIT-clause-few
returns-then-processes-le-SINGLE_LIMIT-clause-few g c s root =
    subst (λ (r : ℕ). AllAnswered c.args.computation.now c.args.preds.now c.args.width (2 * r + 2)
    c.in_ok-answers-2.answers.items)
    (one_root c.least_root-gap.result s (total c.args.computation.now.events + 1)
    (subst (λ (n : ℕ). IsLeastRoot c.least_root-gap.result (n + 1)) c.total.ensures.sum c.least_root-gap.ensures.root)
    root) c.in_ok-answers-2.ensures

pub returns-clause-few : goal.returns-clause-few
returns-clause-few g c s root =
    subst (λ (r : ℕ). AllAnswered c.args.computation.now c.args.preds.now c.args.width (2 * r + 2)
    c.in_ok-answers-3.answers.items)
    (one_root c.least_root-gap.result s (total c.args.computation.now.events + 1)
    (subst (λ (n : ℕ). IsLeastRoot c.least_root-gap.result (n + 1)) c.total.ensures.sum c.least_root-gap.ensures.root)
    root) c.in_ok-answers-3.ensures
