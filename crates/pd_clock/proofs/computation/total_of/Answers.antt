-- The number of events, process by process.
use Rattle.std.proofs.Common.{◌≡◌, ℕ, ◌+◌, ◌*◌, ◌<◌, ◌≤◌, ◌++◌, List, [], ◌∷◌, length, take, sum, sym, ap, ◌∙◌, arith}
use Rattle.std.proofs.lemmas.List.{map-append, take_more}
use Rattle.std.proofs.lemmas.List.Sums.{sum_by-append}
use Rattle.def_format.specs.Limits.{event_limit, process_limit}
use Rattle.def_model.specs.Cuts.{total, full_cut}
use Rattle.def_model.specs.Events.{Computation, Event, events_of, event_count}
use Rattle.read_traces.specs.declared.event.Trace.{Trace}
use Rattle.read_traces.specs.Views.{computation_view}
use Rattle.pd_clock.proofs.Parts.{events_read}
use Rattle.pd_clock.proofs.computation.total_of.Goals as goal

-- one process more
total_push : (c : Computation) (events : List Event) → total (c ++ events ∷ []) ≡ total c + length events
total_push c events =
    ap sum (map-append (λ (es : List Event). length es) c (events ∷ []))
    ∙ (sum_by-append (λ (n : ℕ). n) (full_cut c) (length events ∷ [])
    ∙ (let zero : 0 + length events ≡ length events = omega arith in ap (λ (n : ℕ). total c + n) zero))

pub overflow_add-total : goal.overflow_add-total
overflow_add-total c =
    let within : c.loop-process.process-index < length c.args.traces.now = c.loop-process-test.true in
    let events : events_of (computation_view c.args.traces.now) c.loop-process.process-index
    ≡ c.process-item.result.events =
    events_read c.args.traces.now c.loop-process.process-index c.process-item.result within c.process-item.is in
    let short : event_count (computation_view c.args.traces.now) c.loop-process.process-index ≤ event_limit =
    c.requires.short c.loop-process.process-index in
    let len : c.len.result ≤ event_limit = omega (arith, short, ap length events, c.len.ensures) in
    let few : length c.args.traces.now ≤ process_limit = c.requires.few in
    let bound : c.loop-process.total ≤ event_limit * c.loop-process.process-index = c.loop-process.invariant.bound in
    omega arith

pub loop-process-preserved : goal.loop-process-preserved
loop-process-preserved c =
    let within : c.loop-process.process-index < length c.args.traces.now = c.loop-process-test.true in
    let events : events_of (computation_view c.args.traces.now) c.loop-process.process-index
    ≡ c.process-item.result.events =
    events_read c.args.traces.now c.loop-process.process-index c.process-item.result within c.process-item.is in
    let count : event_count (computation_view c.args.traces.now) c.loop-process.process-index
    ≡ length c.process-item.result.events =
    ap length events in
    let short : event_count (computation_view c.args.traces.now) c.loop-process.process-index ≤ event_limit =
    c.requires.short c.loop-process.process-index in
    let len : c.len.result ≡ length c.process-item.result.events =
    c.len.ensures in
    record {
      so_far =
          let more : take (c.loop-process.process-index + 1) c.args.traces.now
          ≡ take c.loop-process.process-index c.args.traces.now ++ c.process-item.result ∷ [] =
          take_more c.args.traces.now c.loop-process.process-index c.process-item.result within
          ∙ ap (λ (p : Trace). take c.loop-process.process-index c.args.traces.now ++ p ∷ [])
          (sym c.process-item.is) in
          let grown : computation_view (take (c.loop-process.process-index + 1) c.args.traces.now)
          ≡ computation_view (take c.loop-process.process-index c.args.traces.now)
          ++ c.process-item.result.events ∷ [] =
          ap computation_view more ∙ map-append (λ (process : Trace). process.events)
          (take c.loop-process.process-index c.args.traces.now) (c.process-item.result ∷ []) in
          let all : total (computation_view (take (c.loop-process.process-index + 1) c.args.traces.now))
          ≡ total (computation_view (take c.loop-process.process-index c.args.traces.now))
          + length c.process-item.result.events =
          ap total grown ∙ total_push (computation_view (take c.loop-process.process-index c.args.traces.now))
          c.process-item.result.events in
          omega (arith, all, c.loop-process.invariant.so_far);
      bound = omega (arith, c.loop-process.invariant.bound);
    }
