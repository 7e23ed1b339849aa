-- The set has one comparison more.
use Rattle.std.proofs.Common.{arith}
use Rattle.std.proofs.lemmas.Int.{ints}
use Rattle.walk_tables.specs.Choices.{allows}
use Rattle.walk_tables.specs.Tables.{linear_value}
use Rattle.walk_tables.proofs.Sets.{taken}
use Rattle.walk_tables.proofs.choice.Choice.with.Goals as goal

pub returns : goal.returns
returns c prefix x y =
    let choice = c.args.self in
    let linear = c.args.linear.now in
    let value = linear_value choice.sum prefix x y in
    taken choice.is_and linear.comparison c.turned_comparison.result value _ (linear_value linear prefix x y)
    (allows choice.allowed value) (allows c.in_ok-allowed.allowed value) c.turned_comparison.ensures
    (c.in_ok-allowed.ensures value) (omega (arith, ints, c.requires prefix x y))
