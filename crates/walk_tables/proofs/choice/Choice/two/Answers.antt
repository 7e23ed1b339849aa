-- The set has the one comparison, and then the other.
use Rattle.std.proofs.Common.{◌≡◌, ◌∙◌, ◌||◌, ap, false, arith, pos, rules, to_z, of_z, w64}
use Rattle.std.specs.Prelude.{Bool}
use Rattle.std.proofs.lemmas.Int.{ints}
use Rattle.def_model.specs.Predicates as model
use Rattle.pd_pred.specs.Trees.{comparison_view}
use Rattle.walk_tables.specs.Choices.{allows}
use Rattle.walk_tables.specs.Tables.{linear_holds, linear_value}
use Rattle.walk_tables.specs.Zero.{compares_with_zero, joined}
use Rattle.walk_tables.proofs.Sets.{taken, turned_none}
use Rattle.walk_tables.proofs.choice.Choice.two.Goals as goal

pub returns : goal.returns
returns c prefix x y =
    let first = c.args.first in
    let is_and = c.args.is_and in
    let value = linear_value first prefix x y in
    let range = c.whole_range-least.result in
    let between = c.whole_range-least.ensures prefix x y in
    let low : to_z w64 (of_z w64 range.0) ≡ range.0 = search rules in
    let high : to_z w64 (of_z w64 range.1) ≡ range.1 = search rules in
    let held = compares_with_zero first.comparison value in
    c.in_ok-choice.ensures prefix x y
    ∙ ap (joined is_and (linear_holds c.args.second.now prefix x y))
    (taken is_and first.comparison c.turned_comparison.result value _ value false (allows c.in_ok-allowed.allowed value)
    c.turned_comparison.ensures
    (c.in_ok-allowed.ensures value
    ∙ ap (λ (t : Bool). model.compares (comparison_view c.turned_comparison.result) value (pos 0) || t)
    (c.none-none.ensures value (omega (arith, ints, between.0, low), omega (arith, ints, between.1, high))))
    (omega (arith, ints))
    ∙ turned_none is_and held)
