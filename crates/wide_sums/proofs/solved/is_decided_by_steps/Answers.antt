-- If steps decide it, they do so both ways.
use Rattle.std.proofs.Common.{◌≡◌, sym, ◌∙◌, ◌↔◌}
use Rattle.std.proofs.lemmas.Bool.{false≢true}
use Rattle.std.proofs.lemmas.Result.{IfOk-weaker}
use Rattle.std.specs.Prelude.{IsTrue, false, true}
use Rattle.def_wide.specs.Sums.{IsBySmallSteps}
use Rattle.wide_sums.specs.Literals.{literal_view}
use Rattle.wide_sums.proofs.solved.is_decided_by_steps.Goals as goal

pub returns-clause-no : goal.returns-clause-no
returns-clause-no c =
    let Steps = IsBySmallSteps c.args.computation.now (literal_view c.args.literal.now) in
    IfOk-weaker c.is_by_small_steps.result (λ found. IsTrue found ↔ Steps)
    (λ found. found ≡ false → c.args.alone ≡ true → ¬ Steps)
    (λ found tells not_found alone steps. false≢true (sym not_found ∙ tells.1 steps)) c.is_by_small_steps.ensures
