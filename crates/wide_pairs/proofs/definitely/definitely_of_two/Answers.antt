-- The predicate is of two, and the pairs of their counts decide it.
use Rattle.def_model.specs.Predicates.{test_of}
use Rattle.pd_pred.specs.Trees.{tree_view}
use Rattle.pd_pred.specs.Views.{predicate_view}
use Rattle.wide_pairs.specs.Tests.{pair_holds}
use Rattle.wide_pairs.proofs.Deciding.{is_of_two, of_pair}
use Rattle.wide_pairs.proofs.definitely.definitely_of_two.Goals as goal

pub returns-in-Passed : goal.returns-in-Passed
returns-in-Passed c =
    let r = c.args.computation.now in
    let pair = c.in-Some.pair in
    let tree = tree_view c.tree-tree.result.now in
    let predicate = predicate_view c.args.pred.now in
    let found = (rw c.in-Passed.is at c.in_ok-passage-in-Some.ensures) (test_of r predicate)
    (of_pair r pair.first pair.second tree predicate (pair_holds c.in_ok-test-in-Some.test) c.tree-tree.ensures
    c.in_ok-test-in-Some.ensures) in (
      is_of_two r.events tree predicate pair c.tree-tree.ensures c.in-Some.ensures,
      found.0,
      found.1,
    )

pub returns : goal.returns
returns c =
    let r = c.args.computation.now in
    let pair = c.in-Some.pair in
    let tree = tree_view c.tree-tree.result.now in
    let predicate = predicate_view c.args.pred.now in
    let found = (rw c.in-Avoided.is at c.in_ok-passage-in-Some.ensures) (test_of r predicate)
    (of_pair r pair.first pair.second tree predicate (pair_holds c.in_ok-test-in-Some.test) c.tree-tree.ensures
    c.in_ok-test-in-Some.ensures) in (
      is_of_two r.events tree predicate pair c.tree-tree.ensures c.in-Some.ensures,
      found.0,
      found.1,
    )
