-- What is made so far and what is due of the events that are left are what is due.
use Rattle.std.specs.Prelude.{◌≡◌, ◌++◌, drop}
use Rattle.judge_causes.specs.Reduced.{is_listed, reduced_from}
use Rattle.pd_clock.specs.Orders.{places_view}
use Rattle.judge_causes.proofs.reduce.reduced_events.Given as goal

abbrev pub invariant-loop-k : goal.invariant-loop-k
invariant-loop-k l =
    l.made ++ reduced_from (is_listed (places_view l.kept)) l.process l.k (drop l.k l.events)
    ≡ reduced_from (is_listed (places_view l.kept)) l.process 0 l.events
