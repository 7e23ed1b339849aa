-- As many zeros as there are processes are the empty cut.
use Rattle.std.proofs.Common.{◌≡◌, ℕ, replicate, ap, ◌∙◌}
use Rattle.std.proofs.lemmas.Result.{IfOk-weaker}
use Rattle.def_model.specs.Cuts.{empty_cut}
use Rattle.def_model.proofs.AvoidingPaths.{zeros_are_empty}
use Rattle.wide_terms.proofs.row.zeros.Goals as goal

pub returns : goal.returns
returns c =
    IfOk-weaker c.vec.result (λ v. ((y : ℕ) → y ≡ 0 → y ≡ 0) → v.items ≡ replicate c.processes.result 0) (λ v. v.items
    ≡ empty_cut c.args.computation.now.events) (λ v zeros. zeros (λ y e. e)
    ∙ (ap (λ (n : ℕ). replicate n 0) c.processes.ensures ∙ zeros_are_empty c.args.computation.now.events))
    c.vec.ensures.items_if_clones_equal
