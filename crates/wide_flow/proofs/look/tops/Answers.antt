-- One process more has its place.
use Rattle.std.proofs.Common.{◌+◌, ◌++◌, ◌∷◌, [], ℕ, List, sym, ap, ◌∙◌, subst}
use Rattle.wide_flow.specs.Searches.{AreTops}
use Rattle.wide_flow.proofs.SearchSteps.{tops_more}
use Rattle.wide_flow.proofs.look.tops.Goals as goal

pub loop-process-preserved : goal.loop-process-preserved
loop-process-preserved c =
    let n = c.loop-process.process in
    let frozen = c.args.frozen.now in
    subst (λ (xs : List ℕ). AreTops (n + 1) c.args.steps.now c.args.rows.now frozen c.args.e xs)
    (sym (c.in_ok-push.ensures.items ∙ ap (λ (t : ℕ). c.loop-process.tops.items ++ t ∷ []) c.max.ensures))
    (tops_more n c.args.steps.now c.args.rows.now frozen c.args.e c.loop-process.tops.items c.many_in_past-many.result
    c.loop-process.invariant c.many_in_past-many.ensures (c.requires.within n c.loop-process-test.true))
