-- The sum is renamed term by term.
use Rattle.std.proofs.Common.{◌≡◌, ◌∙◌, arith, map}
use Rattle.std.proofs.lemmas.Grind.{common_steps}
use Rattle.def_long.specs.Renamed.{Names}
use Rattle.def_orders.specs.Selections.{numbers_in}
use Rattle.pd_pred.specs.Trees.{terms_view}
use Rattle.judge_reduction.proofs.RenamedTerms.{renamed_signed, renamed_terms}
use Rattle.judge_reduction.proofs.same_trees.are_same_terms.Goals as goal

pub returns : goal.returns
returns c = λ _.
    let names : Names = numbers_in c.args.places.now c.args.count in
    let each : map (renamed_signed names) c.args.first.now ≡ terms_view c.args.second.now =
    grind (arith, common_steps) in
    renamed_terms names c.args.first.now ∙ each
