-- The variables so far.
use Rattle.std.proofs.Common.{◌≡◌}
use Rattle.pd_pred.specs.Trees.{tree_view}
use Rattle.judge_facts.specs.Values.{named_values}
use Rattle.judge_facts.proofs.values.named_values.Given as goal

abbrev pub invariant-loop-var : goal.invariant-loop-var
invariant-loop-var g l =
    l.found.items ≡ named_values (tree_view l.tree) (g.V.Values.state l.values) l.process l.var
