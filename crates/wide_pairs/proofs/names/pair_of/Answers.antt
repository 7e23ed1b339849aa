-- The predicate is of two exactly if the second of the two processes is there.
use Rattle.std.proofs.Common.{arith}
use Rattle.pd_pred.specs.Trees.{tree_view}
use Rattle.wide_pairs.proofs.Naming.{none_of_two, not_of_two}
use Rattle.wide_pairs.proofs.names.pair_of.Goals as goal

pub returns-in-None : goal.returns-in-None
returns-in-None c = none_of_two c.args.computation.now.events (tree_view c.args.tree.now) c.in-None.ensures

pub returns-else-pair-processes : goal.returns-else-pair-processes
returns-else-pair-processes c =
    not_of_two c.args.computation.now.events (tree_view c.args.tree.now) c.in-Some.pair c.in-Some.ensures
    (omega (arith, c.if-pair-processes.false, c.processes.ensures))
