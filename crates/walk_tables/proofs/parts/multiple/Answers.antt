-- The product of a factor and a value fits 128 bits.
use Rattle.walk_tables.proofs.Numbers.{abs_of_fits, product_read, product_small}
use Rattle.walk_tables.proofs.parts.multiple.Goals as goal

pub returns-clause-value : goal.returns-clause-value
returns-clause-value c =
    product_read c.args.factor c.from.result c.args.value c.ranges.factor c.from.ensures c.ranges.value c.requires

pub returns-clause-small : goal.returns-clause-small
returns-clause-small c =
    let read =
    product_read c.args.factor c.from.result c.args.value c.ranges.factor c.from.ensures c.ranges.value c.requires in
    rw read (product_small c.args.factor c.args.value c.requires (abs_of_fits c.args.value c.ranges.value))
