-- What is made so far and what is due of the traces that are left are what is due.
use Rattle.std.specs.Prelude.{◌≡◌, ◌++◌, drop}
use Rattle.judge_causes.specs.Reduced.{is_listed, reduced_traces}
use Rattle.pd_clock.specs.Orders.{places_view}
use Rattle.judge_causes.proofs.reduce.reduced_of.Given as goal

abbrev pub invariant-loop-p : goal.invariant-loop-p
invariant-loop-p l =
    l.made.items ++ reduced_traces (is_listed (places_view l.kept)) l.p (drop l.p l.traces)
    ≡ reduced_traces (is_listed (places_view l.kept)) 0 l.traces
