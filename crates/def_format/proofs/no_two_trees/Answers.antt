-- No tokens spell two predicates.
use Rattle.def_format.specs.Grammar.{NamedBy}
use Rattle.def_format.proofs.OneTree.{one_tree}
use Rattle.def_format.proofs.no_two_trees.Goals as goal

pub returns : goal.returns
returns c = λ names clear tokens a b r s. one_tree (NamedBy names) clear tokens a b r s
