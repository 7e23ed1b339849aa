-- The first process with a stuck event is the least.
use Rattle.std.proofs.Common.{◌≡◌, ℕ, ◌<◌, ◌≤◌, length, below_more, arith}
use Rattle.std.proofs.lemmas.List.{length-map}
use Rattle.def_model.specs.Events.{place}
use Rattle.def_model.specs.Order.{IsStuck}
use Rattle.def_model.proofs.Consistency.{process_in_range}
use Rattle.read_traces.specs.declared.event.Trace.{Trace}
use Rattle.read_traces.specs.Views.{computation_view}
use Rattle.def_model.proofs.StuckWay.{stuck_event}
use Rattle.pd_clock.proofs.cycle.least_stuck.Goals as goal

pub returns-in-Some-clause-some : goal.returns-in-Some-clause-some
returns-in-Some-clause-some c =
    let process : c.in-Some.first.process ≡ c.loop-p.p = c.in-Some.ensures.process in
    (c.in-Some.ensures.some, λ f less. c.loop-p.invariant f.process (omega arith) f.number)

pub loop-p-preserved : goal.loop-p-preserved
loop-p-preserved c =
    below_more (λ (q : ℕ). (n : ℕ) → ¬ IsStuck (computation_view c.args.traces.now) (place q n)) c.loop-p.p
    c.loop-p.invariant c.in_default.ensures.none

pub returns-clause-none : goal.returns-clause-none
returns-clause-none c = λ e stuck.
    let within : e.process < length (computation_view c.args.traces.now) =
    process_in_range (computation_view c.args.traces.now) e
    (stuck_event (computation_view c.args.traces.now) e stuck) in
    let count : length (computation_view c.args.traces.now) ≡ length c.args.traces.now =
    length-map c.args.traces.now (λ (process : Trace). process.events) in
    let all : length c.args.traces.now ≤ c.loop-p.p = c.loop-p-test.false in
    c.loop-p.invariant e.process (omega arith) e.number stuck
