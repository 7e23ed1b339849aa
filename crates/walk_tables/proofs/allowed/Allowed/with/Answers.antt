-- Each comparison with a number as bounds.
use Rattle.std.proofs.Common.{◌≡◌, ◌∙◌, ◌||◌, ℤ, ap, arith, to_z, of_z, w64}
use Rattle.std.specs.Prelude.{int_lt}
use Rattle.std.proofs.lemmas.Int.{ints, to_z-of_z}
use Rattle.walk_tables.specs.Choices.{allows}
use Rattle.walk_tables.proofs.Sets.{at_least_is, at_most_is, differs_is}
use Rattle.walk_tables.proofs.allowed.Allowed.with.Goals as goal

pub returns-in-Differs : goal.returns-in-Differs
returns-in-Differs c value =
    let read : to_z w64 (of_z w64 c.args.at) ≡ c.args.at = to_z-of_z w64 c.args.at c.ranges.at in
    rw c.in-Differs.is
    (c.with_above.ensures value
    ∙ (λ i. int_lt (read i) value || c.with_below.ensures value i)
    ∙ ap (λ (at : ℤ). int_lt c.args.at value || (int_lt value at || allows c.args.self value)) read
    ∙ differs_is value c.args.at (allows c.args.self value))

pub returns-in-IsAtMost : goal.returns-in-IsAtMost
returns-in-IsAtMost c value =
    rw c.in-IsAtMost.is
    (c.with_below-in-IsAtMost.ensures value
    ∙ at_most_is value c.args.at _ (allows c.args.self value) (omega (arith, ints, c.requires)))

pub returns-in-IsAtLeast : goal.returns-in-IsAtLeast
returns-in-IsAtLeast c value =
    rw c.in-IsAtLeast.is
    (c.with_above-in-IsAtLeast.ensures value
    ∙ at_least_is value c.args.at _ (allows c.args.self value) (omega (arith, ints, c.requires)))
