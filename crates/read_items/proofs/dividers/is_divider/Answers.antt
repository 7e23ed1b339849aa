-- A line that isn't three equals signs alone.
use Rattle.read_items.proofs.DividerLines.{by_second}
use Rattle.read_items.proofs.dividers.is_divider.Goals as goal

pub returns-else-eq-clause-ended : goal.returns-else-eq-clause-ended
returns-else-eq-clause-ended c =
    by_second c.args.line.now _ _ c.eq.result c.eq-else-eq.result c.as_slice.ensures c.as_slice-else-eq.ensures
    c.eq.ensures c.eq-else-eq.ensures c.if-eq.false
