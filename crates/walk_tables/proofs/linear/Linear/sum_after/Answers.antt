-- The sum is the one of the cut.
use Rattle.std.proofs.Common.{arith}
use Rattle.std.proofs.lemmas.Int.{ints}
use Rattle.walk_tables.proofs.linear.Linear.sum_after.Goals as goal

pub returns : goal.returns
returns c =
    λ prefix is.
    omega (
      arith,
      ints,
      is,
      c.at.ensures.value,
      c.at-2.ensures.value,
      c.at.ensures.small,
      c.at-2.ensures.small,
      c.requires,
    )
