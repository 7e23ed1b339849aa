-- One comparison more has its place.
use Rattle.std.proofs.Common.{map, take, arith}
use Rattle.wide_sums.specs.Literals.{literal_view}
use Rattle.wide_sums.proofs.Placing.{prepared_push}
use Rattle.wide_sums.proofs.Reading.{views_more}
use Rattle.wide_sums.proofs.prepared.push_rows.Goals as goal

pub loop-literal-preserved : goal.loop-literal-preserved
loop-literal-preserved c =
    rw (
      views_more c.args.literals.now c.loop-literal.literal-index c.literal-item.result (omega arith) c.literal-item.is,
      c.in_ok-push.ensures.items,
    )
    (prepared_push c.args.computation.now c.loop-literal.rows.rows.items c.push_row.new.rows.rows.items
    (map literal_view (take c.loop-literal.literal-index c.args.literals.now)) c.loop-literal.places.items
    (literal_view c.literal-item.result) c.in_ok-place.place c.loop-literal.invariant c.in_ok-place.ensures)
