-- Two sums and how they are compared.
use Rattle.def_format.specs.Tokens.{Relates}
use Rattle.pd_pred.specs.Trees.{comparison_view, sum_view}
use Rattle.pd_pred.proofs.Prefixes.{readable_rest, readable_follows}
use Rattle.pd_pred.proofs.RulesRead.{comparison_is_read}
use Rattle.pd_pred.proofs.build.comparison.Goals as goal

pub sum-requires-2-clause-readable : goal.sum-requires-2-clause-readable
sum-requires-2-clause-readable c =
    let left = c.in_ok-left.ensures.read in
    readable_follows c.args.names.now (Relates (comparison_view c.after_comparison-comparison.result.0))
    c.in_ok-left.related.now c.after_comparison-comparison.result.1.now c.after_comparison-comparison.ensures
    (readable_rest c.args.names.now c.args.tokens.now left.prefix c.in_ok-left.related.now left.parts
    c.requires.readable)

pub returns : goal.returns
returns c =
    comparison_is_read c.args.names.now (comparison_view c.after_comparison-comparison.result.0) c.args.tokens.now
    c.in_ok-left.related.now c.after_comparison-comparison.result.1.now c.in_ok-right.rest.now
    (sum_view c.in_ok-left.left) (sum_view c.in_ok-right.right) c.requires.begins c.in_ok-left.ensures.read
    c.after_comparison-comparison.ensures c.in_ok-right.ensures.read c.in_ok-right.ensures.stops
