-- The sum that is compared is the one of the cut.
use Rattle.std.proofs.Common.{arith}
use Rattle.std.proofs.lemmas.Int.{ints}
use Rattle.walk_tables.specs.Tables.{linear_value}
use Rattle.walk_tables.proofs.Comparisons.{compares_along}
use Rattle.walk_tables.proofs.linear.Linear.holds.Goals as goal

pub returns : goal.returns
returns c =
    λ prefix is.
    compares_along c.args.self.now.comparison c.holds_at_zero.result _
    (linear_value c.args.self.now prefix c.args.x c.args.y) c.holds_at_zero.ensures
    (
    omega (
      arith,
      ints,
      is,
      c.at.ensures.value,
      c.at-2.ensures.value,
      c.at.ensures.small,
      c.at-2.ensures.small,
      c.requires,
    )
    )
