-- The value is read in the row after the events that are counted.
use Rattle.std.proofs.Common.{◌≡◌, ℕ, List, ◌<◌, ◌≤◌, length, get_or, ap, sym, ◌∙◌, subst, ℤ, Vec, w64}
use Rattle.std.specs.Global.{Global}
use Rattle.std.proofs.lemmas.Int.{to_z-of_z}
use Rattle.def_model.specs.Events.{event_count}
use Rattle.def_model.specs.Predicates.{Recorded, state_at}
use Rattle.read_traces.specs.Views.{computation_view}
use Rattle.pd_clock.specs.States.{history_at, value_in, values_at}
use Rattle.pd_clock.proofs.Lookups.{count_there, row_there, value_is_state}
use Rattle.pd_clock.proofs.Parts.{history_read, values_read}
use Rattle.pd_clock.proofs.computation.Computation.value.Goals as goal

-- the row of a process, as it is read
row_read : (rows : List (Vec ℤ Global)) (p : ℕ) (row : Vec ℤ Global) (items : List ℤ) → p < length rows
    → row ≡ get_or rows p row → items ≡ (get_or rows p row).items → values_at rows p ≡ items
row_read rows p row items lt is at = values_read rows p row lt is ∙ (ap (λ (r : Vec ℤ Global). r.items) is ∙ sym at)

pub value_in_history-requires : goal.value_in_history-requires
value_in_history-requires c =
    let lt : c.args.process < length c.self.inside.initial.now = c.if-process-self.false in
    let le : c.args.count ≤ event_count (computation_view c.self.inside.traces.now) c.args.process =
    count_there c.self.inside.initial.now c.self.inside.traces.now c.self.inside.histories.items c.self.invariant.0
    c.args.process c.args.count lt (subst (λ (r : Recorded). c.args.process < length r.events
    → c.args.count ≤ event_count r.events c.args.process) (sym c.self.view_is) c.requires) in
    let there : c.args.process < length c.self.inside.histories.items = rw c.self.invariant.0.one_each lt in
    let start : values_at c.self.inside.initial.now c.args.process ≡ c.deref.result.now =
    row_read c.self.inside.initial.now c.args.process c.index-self-process.result c.deref.result.now lt
    c.index-self-process.is c.deref.ensures.value in
    let history : history_at c.self.inside.histories.items c.args.process ≡ c.index.result.now =
    history_read c.self.inside.histories.items c.args.process c.index.result.now there c.index.ensures in
    rw (← start, ← history) (row_there c.self.inside.initial.now c.self.inside.traces.now c.self.inside.histories.items
    c.self.invariant.0 c.args.process c.args.count le)

pub returns : goal.returns
returns c =
    let lt : c.args.process < length c.self.inside.initial.now = c.if-process-self.false in
    let le : c.args.count ≤ event_count (computation_view c.self.inside.traces.now) c.args.process =
    count_there c.self.inside.initial.now c.self.inside.traces.now c.self.inside.histories.items c.self.invariant.0
    c.args.process c.args.count lt (subst (λ (r : Recorded). c.args.process < length r.events
    → c.args.count ≤ event_count r.events c.args.process) (sym c.self.view_is) c.requires) in
    let there : c.args.process < length c.self.inside.histories.items = rw c.self.invariant.0.one_each lt in
    let start : values_at c.self.inside.initial.now c.args.process ≡ c.deref.result.now =
    row_read c.self.inside.initial.now c.args.process c.index-self-process.result c.deref.result.now lt
    c.index-self-process.is c.deref.ensures.value in
    let history : history_at c.self.inside.histories.items c.args.process ≡ c.index.result.now =
    history_read c.self.inside.histories.items c.args.process c.index.result.now there c.index.ensures in
    λ counts at.
    let here : get_or counts c.args.process 0 ≤ event_count (computation_view c.self.inside.traces.now) c.args.process =
    rw at le in
    let read : c.value_in_history.result ≡ value_in (values_at c.self.inside.initial.now c.args.process)
    (history_at c.self.inside.histories.items c.args.process) (get_or counts c.args.process 0) c.args.var =
    rw (start, history, at) c.value_in_history.ensures in
    to_z-of_z w64 c.value_in_history.result (record { sfits = c.value_in_history.type_inv }) ∙
    subst (λ (r : Recorded). c.value_in_history.result ≡ state_at r.initial r.events counts c.args.process c.args.var)
    c.self.view_is
    (read ∙ value_is_state c.self.inside.initial.now c.self.inside.traces.now c.self.inside.histories.items
    c.self.invariant.0 counts c.args.process c.args.var here)
