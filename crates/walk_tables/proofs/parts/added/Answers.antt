-- A sum that isn't too large fits 64 bits.
use Rattle.std.proofs.Common.{◌≡◌, arith, ◌*ℤ◌}
use Rattle.std.proofs.lemmas.Int.{ints, to_z-of_z}
use Rattle.walk_tables.proofs.parts.added.Goals as goal

pub returns-clause-value : goal.returns-clause-value
returns-clause-value c =
    let wide = c.ranges.factor in
    let fits = c.ranges.value in
    let product : c.multiple.result ≡ c.args.factor *ℤ c.args.value = simp to_z-of_z at c.multiple.ensures.value in
    rw (← product) (omega (arith, ints, c.multiple.ensures.small))

pub returns-clause-small : goal.returns-clause-small
returns-clause-small c = omega (arith, ints, c.multiple.ensures.small)
