-- The least and the greatest that the first processes can add, one column after another.
use Rattle.std.proofs.Common.{arith, get_or}
use Rattle.std.proofs.lemmas.Int.{ints}
use Rattle.walk_tables.proofs.Columns.{columns_step}
use Rattle.walk_tables.proofs.linear.Linear.range.Goals as goal

pub loop-column-preserved : goal.loop-column-preserved
loop-column-preserved c =
    let item = c.column-item.result in
    record {
      least = λ prefix.
          let step =
          columns_step c.deref-column-items.result.now c.loop-column.column-index item prefix c.loop-column-test.true
          c.column-item.is in
          let between = item.table.between (get_or prefix item.process 0) in
          omega (arith, ints, step, between.0, between.1, c.loop-column.invariant.least prefix);
      greatest = λ prefix.
          let step =
          columns_step c.deref-column-items.result.now c.loop-column.column-index item prefix c.loop-column-test.true
          c.column-item.is in
          let between = item.table.between (get_or prefix item.process 0) in
          omega (arith, ints, step, between.0, between.1, c.loop-column.invariant.greatest prefix);
      low = omega (arith, ints, item.table.low);
      high = omega (arith, ints, item.table.high);
    }
