-- Two processes beside which the predicate names none.
use Rattle.pd_pred.specs.Trees.{tree_view}
use Rattle.wide_pairs.proofs.Naming.{none_named, one_named, three_named, two_named}
use Rattle.wide_pairs.proofs.names.named_pair.Goals as goal

pub returns-in-None : goal.returns-in-None
returns-in-None c = none_named (tree_view c.args.tree.now) c.in-None.ensures

pub returns-in-None-other_of : goal.returns-in-None-other_of
returns-in-None-other_of c =
    one_named (tree_view c.args.tree.now) c.in-Some.p c.in-Some.ensures.0 c.in-Some.ensures.2
    c.in-None-other_of.ensures

pub returns-in-None-other_of-2 : goal.returns-in-None-other_of-2
returns-in-None-other_of-2 c =
    two_named (tree_view c.args.tree.now) c.in-Some.p c.in-Some-other_of.q c.ordered.result c.in-Some.ensures.2
    c.in-Some-other_of.ensures.2 c.in-None-other_of-2.ensures c.ordered.ensures.order c.ordered.ensures.same

pub returns-in-Some-other_of-2 : goal.returns-in-Some-other_of-2
returns-in-Some-other_of-2 c =
    three_named (tree_view c.args.tree.now) c.in-Some.p c.in-Some-other_of.q c.in-Some-other_of-2.field-0
    c.in-Some-other_of.ensures.0 c.in-Some-other_of-2.ensures.0 c.in-Some-other_of-2.ensures.1 c.in-Some.ensures.2
    c.in-Some-other_of.ensures.2 c.in-Some-other_of-2.ensures.2
