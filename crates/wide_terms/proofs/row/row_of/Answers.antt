-- The comparison depends on the count of the process that it names.
use Rattle.std.proofs.Common.{◌∙◌}
use Rattle.pd_pred.specs.Trees.{sum_view, tree_view}
use Rattle.wide_terms.proofs.Changing.{depends_on_vars}
use Rattle.wide_terms.proofs.Locality.{depends}
use Rattle.wide_terms.proofs.row.row_of.Goals as goal

pub row_by-requires-clause-depends : goal.row_by-requires-clause-depends
row_by-requires-clause-depends c =
    depends c.args.computation.now (tree_view c.args.tree.now) (sum_view c.args.left.now) (sum_view c.args.right.now)
    c.process_of-process.ensures.alone.0 c.process_of-process.result c.requires.sums
    c.process_of-process.ensures.alone.1 c.process_of-process.ensures.alone.2 c.process_of-process.ensures.alone.3

pub row_by-requires-clause-vars : goal.row_by-requires-clause-vars
row_by-requires-clause-vars c =
    depends_on_vars c.args.computation.now (tree_view c.args.tree.now) (sum_view c.args.left.now)
    (sum_view c.args.right.now) c.process_of-process.ensures.alone.0 c.process_of-process.result c.deref.result.now
    (c.deref.ensures.value ∙ c.in_ok-vars.ensures) c.requires.sums c.process_of-process.ensures.alone.1
    c.process_of-process.ensures.alone.2 c.process_of-process.ensures.alone.3
