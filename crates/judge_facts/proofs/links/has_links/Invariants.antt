-- None of the processes so far.
use Rattle.std.proofs.Common.{ℕ, ◌<◌}
use Rattle.pd_pred.specs.Trees.{tree_view}
use Rattle.judge_facts.specs.Links.{IsLedTo}
use Rattle.judge_facts.proofs.links.has_links.Given as goal

abbrev pub invariant-loop-q : goal.invariant-loop-q
invariant-loop-q l = (q : ℕ) → q < l.q → IsLedTo l.computation.events (tree_view l.tree) q → ⊥
