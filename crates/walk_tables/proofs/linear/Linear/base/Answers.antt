-- What the first processes add, one column after another.
use Rattle.std.proofs.Common.{◌≡◌, arith, get_or, ℕ, ap, ◌∙◌}
use Rattle.std.proofs.lemmas.Int.{ints}
use Rattle.walk_tables.specs.Tables.{table_at}
use Rattle.walk_tables.proofs.Columns.{columns_step}
use Rattle.walk_tables.proofs.linear.Linear.base.Goals as goal

pub loop-column-preserved : goal.loop-column-preserved
loop-column-preserved c =
    let step =
    columns_step c.deref-column-items.result.now c.loop-column.column-index c.column-item.result c.args.prefix.now
    c.loop-column-test.true c.column-item.is in
    let read : c.at-total.result ≡ table_at c.column-item.result.table
    (get_or c.args.prefix.now c.column-item.result.process 0) =
    c.at-total.ensures.value ∙ ap (λ (n : ℕ). table_at c.column-item.result.table n) c.count_of.ensures in
    record { sum = omega (arith, ints, step, read); small = omega (arith, ints) }
