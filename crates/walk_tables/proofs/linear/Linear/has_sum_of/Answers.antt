-- The tables add the same.
use Rattle.std.proofs.Common.{arith, refl}
use Rattle.std.proofs.lemmas.Int.{ints}
use Rattle.walk_tables.proofs.linear.Linear.has_sum_of.Goals as goal

pub returns : goal.returns
returns c held prefix x y =
    let columns = rw (c.deref.ensures.value, c.deref-2.ensures.value) at c.have_same.ensures held prefix in
    omega (arith, ints, columns, c.if-not-is_same.ensures refl x, c.if-not-is_same-2.ensures refl y)
