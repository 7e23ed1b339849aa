-- What both processes add is compared with 0 as the two sums are compared.
use Rattle.pd_pred.specs.Trees.{comparison_view, sum_view}
use Rattle.wide_pairs.proofs.Differences.{by_rows}
use Rattle.wide_pairs.proofs.rows.Rows.of.Goals as goal

pub returns : goal.returns
returns c =
    by_rows c.args.computation.now c.args.pair.first c.args.pair.second c.requires.order (sum_view c.args.left.now)
    (sum_view c.args.right.now) (comparison_view c.args.comparison) c.requires.left c.requires.right
    c.in_ok-first.first.items c.in_ok-second.second.items c.in_ok-first.ensures c.in_ok-second.ensures
