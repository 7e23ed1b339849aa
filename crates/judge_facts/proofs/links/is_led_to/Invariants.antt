-- None of the processes so far.
use Rattle.std.proofs.Common.{ℕ, ◌<◌}
use Rattle.pd_pred.specs.Trees.{tree_view}
use Rattle.judge_facts.specs.Links.{Links}
use Rattle.judge_facts.proofs.links.is_led_to.Given as goal

abbrev pub invariant-loop-p : goal.invariant-loop-p
invariant-loop-p l = (p : ℕ) → p < l.p → Links l.computation.events (tree_view l.tree) p l.q → ⊥
