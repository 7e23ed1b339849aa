-- The first stuck event is the first that is left, if one is left.
use Rattle.std.proofs.Common.{◌≡◌, ℕ, ◌<◌, ◌≤◌, List, length, get_or, sym, ap, ◌∙◌, arith}
use Rattle.def_model.specs.Events.{event_count}
use Rattle.read_traces.specs.declared.event.Trace.{Trace}
use Rattle.read_traces.specs.Views.{computation_view}
use Rattle.pd_clock.proofs.Parts.{events_read}
use Rattle.pd_clock.proofs.Cycles.{first_left, none_left}
use Rattle.pd_clock.proofs.cycle.first_stuck.Goals as goal

count_read : (traces : List Trace) (p : ℕ) (process : Trace) → p < length traces → process ≡ get_or traces p process
    → event_count (computation_view traces) p ≡ length process.events
count_read traces p process within is =
    ap length (events_read traces p process within is)

pub returns-then-done-p-clause-some : goal.returns-then-done-p-clause-some
returns-then-done-p-clause-some c =
    let count : event_count (computation_view c.args.traces.now) c.args.p
    ≡ length c.index-traces-p.result.events =
    count_read c.args.traces.now c.args.p c.index-traces-p.result c.requires.within c.index-traces-p.is in
    let len : c.len.result ≡ length c.index-traces-p.result.events =
    c.len.ensures ∙ ap (λ (t : Trace). length t.events) (sym c.index-traces-p.is) in
    let less : get_or c.args.done.now c.args.p 0 < c.len.result = c.if-done-p.true in
    first_left (computation_view c.args.traces.now) c.args.done.now c.requires.stuck c.args.p (omega arith)

pub returns-clause-none : goal.returns-clause-none
returns-clause-none c =
    let count : event_count (computation_view c.args.traces.now) c.args.p
    ≡ length c.index-traces-p.result.events =
    count_read c.args.traces.now c.args.p c.index-traces-p.result c.requires.within c.index-traces-p.is in
    let len : c.len.result ≡ length c.index-traces-p.result.events =
    c.len.ensures ∙ ap (λ (t : Trace). length t.events) (sym c.index-traces-p.is) in
    let all : c.len.result ≤ get_or c.args.done.now c.args.p 0 = c.if-done-p.false in
    none_left (computation_view c.args.traces.now) c.args.done.now c.requires.stuck c.args.p (omega arith)
