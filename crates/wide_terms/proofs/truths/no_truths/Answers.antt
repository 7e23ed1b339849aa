-- In zeros nothing is true.
use Rattle.std.proofs.Common.{◌≡◌, ℕ, List, replicate, ap, ◌∙◌, false}
use Rattle.std.proofs.lemmas.Result.{IfOk-weaker}
use Rattle.wide_terms.specs.Truths.{truth_at}
use Rattle.wide_terms.proofs.TruthSteps.{zeros_false}
use Rattle.wide_terms.proofs.truths.no_truths.Goals as goal

pub returns-clause-none : goal.returns-clause-none
returns-clause-none c =
    IfOk-weaker c.vec.result (λ v. ((y : ℕ) → y ≡ 0 → y ≡ 0) → v.items ≡ replicate c.args.n 0)
    (λ v. (count : ℕ) → truth_at v.items count ≡ false)
    (λ v zeros count. ap (λ (words : List ℕ). truth_at words count) (zeros (λ y e. e)) ∙ zeros_false c.args.n count)
    c.vec.ensures.items_if_clones_equal
