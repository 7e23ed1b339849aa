-- Takes the trace of this process out, if there is one.
use Rattle.std.proofs.Common.{◌≡◌, ap, sym, ◌∙◌, List}
use Rattle.std.specs.Prelude.{Some, None, option_map}
use Rattle.std.specs.List.{position}
use Rattle.std.specs.Result.{result_ok}
use Rattle.std.proofs.lemmas.List.Quantifiers.{position-Some}
use Rattle.def_format.specs.Sessions.{trace_of}
use Rattle.read_traces.specs.Views.{trace_view}
use Rattle.pd_gather.specs.Views.{is_trace_of, results_view}
use Rattle.pd_gather.proofs.Places.{Given, trace_at, trace_nowhere, trace_stays}
use Rattle.pd_gather.proofs.traces.take_trace.Goals as goal

pub returns-in_err-at-clause-value : goal.returns-in_err-at-clause-value
returns-in_err-at-clause-value c =
    let placed : position (is_trace_of c.args.process) c.args.readings.now.items ≡ None =
    rw c.deref.ensures.value at (sym c.in_err-at.ensures) in
    rw c.from_residual.ensures (sym (trace_nowhere c.args.process c.args.readings.now.items placed))

pub returns-clause-value : goal.returns-clause-value
returns-clause-value c =
    let placed : position (is_trace_of c.args.process) c.args.readings.now.items ≡ Some c.in_ok-at.at =
    rw c.deref.ensures.value at (sym c.in_ok-at.ensures) in
    ap (option_map trace_view) c.ok.ensures.value
    ∙ (ap (λ (y : Given). option_map trace_view (result_ok y)) c.remove.ensures.value
    ∙ sym (trace_at c.args.process c.args.readings.now.items c.in_ok-at.at c.remove.result placed))

pub returns-clause-others : goal.returns-clause-others
returns-clause-others c = λ q differ.
    let placed : position (is_trace_of c.args.process) c.args.readings.now.items ≡ Some c.in_ok-at.at =
    rw c.deref.ensures.value at (sym c.in_ok-at.ensures) in
    let found =
    position-Some (is_trace_of c.args.process) c.args.readings.now.items c.in_ok-at.at c.remove.result placed in
    ap (λ (ys : List Given). trace_of q (results_view ys)) c.remove.ensures.items
    ∙ trace_stays q c.args.process c.args.readings.now.items c.in_ok-at.at c.remove.result differ found.0 found.1
