-- The traces so far are whole.
use Rattle.judge_orders.specs.Lists.{lists_view}
use Rattle.judge_reduced.specs.Planned.{AreWhole}
use Rattle.pd_spec.specs.Views.{document_view}
use Rattle.judge_reduced.proofs.reduced.reduced_traces.Given as goal

abbrev pub invariant-loop-p : goal.invariant-loop-p
invariant-loop-p l =
    AreWhole (document_view l.spec).names l.computation (lists_view l.named) (lists_view l.numbers) l.p l.traces.items
