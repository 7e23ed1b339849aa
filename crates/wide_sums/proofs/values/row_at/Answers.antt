-- The row of a process that neither sum names is empty.
use Rattle.std.proofs.Common.{nat_eq, subst, sym}
use Rattle.pd_pred.specs.Trees.{sum_view}
use Rattle.wide_pairs.specs.Parts.{IsRowOf}
use Rattle.wide_sums.proofs.Unnamed.{empty_row}
use Rattle.wide_sums.proofs.values.row_at.Goals as goal

pub returns-then-names_none-2 : goal.returns-then-names_none-2
returns-then-names_none-2 c =
    subst
    (IsRowOf c.args.computation.now c.args.process (nat_eq c.args.process 0) (sum_view c.args.left.now)
    (sum_view c.args.right.now)) (sym c.new.ensures.items)
    (empty_row c.args.computation.now c.args.process (sum_view c.args.left.now) (sum_view c.args.right.now)
    c.if-process-gt0.true (c.names_none.ensures c.if-names_none.true)
    (c.names_none-then-names_none.ensures c.if-names_none-2.true))
