-- Each process has its trace, in the processes' order.
use Rattle.std.proofs.Common.{◌≡◌, ℕ, ◌+◌, ◌<◌, List, [], ◌∷◌, ◌++◌, length, drop, ap, sym, subst, ◌∙◌, arith}
use Rattle.std.specs.Prelude.{Some, Result, IsOk, option_map}
use Rattle.std.proofs.lemmas.Grind.{common_steps}
use Rattle.def_format.specs.Names.{ProcessNames}
use Rattle.def_format.specs.ReadingLaws.{FitsWithin}
use Rattle.def_format.specs.Readings as readings
use Rattle.def_format.specs.Sessions.{SessionFault, trace_of, traces_from}
use Rattle.read_traces.specs.Views.{trace_view}
use Rattle.read_traces.specs.declared.event.Trace.{Trace}
use Rattle.pd_gather.specs.Views.{results_view, traces_view}
use Rattle.pd_gather.proofs.Places.{following, one_more, complete_has, dropped, is_mapped, prefix_push, at_push, trace_is_of}
use Rattle.pd_gather.proofs.traces.in_order.Goals as goal

pub unwrap-trace-requires : goal.unwrap-trace-requires
unwrap-trace-requires c =
    let within : c.loop-p.p < length c.args.names.now = omega (arith, c.loop-p-test.true, c.processes-p-end.ensures) in
    let rest = dropped c.args.names.now c.loop-p.p within in
    let whole = c.loop-p.invariant.so_far
    ∙ ap (λ (xs : List ProcessNames). following (traces_view c.loop-p.traces.items)
    (traces_from c.loop-p.p xs (results_view c.args.readings.items))) rest.1 in
    let found = complete_has (traces_view c.loop-p.traces.items) c.loop-p.p rest.0 (drop (c.loop-p.p + 1)
    c.args.names.now) (results_view c.args.readings.items)
    (subst (λ (r : Result (List readings.Trace) SessionFault). IsOk r) whole c.requires.complete) in
    is_mapped trace_view c.take_trace.result found.0
    (c.take_trace.ensures.value ∙ (c.loop-p.invariant.same c.loop-p.p (omega arith) ∙ found.1))

pub loop-p-preserved : goal.loop-p-preserved
loop-p-preserved c =
    let within : c.loop-p.p < length c.args.names.now = omega (arith, c.loop-p-test.true, c.processes-p-end.ensures) in
    let rest = dropped c.args.names.now c.loop-p.p within in
    let found : trace_of c.loop-p.p (results_view c.args.readings.items) ≡ Some (trace_view c.unwrap-trace.result) =
    sym (c.loop-p.invariant.same c.loop-p.p (omega arith))
    ∙ (sym c.take_trace.ensures.value ∙ ap (option_map trace_view) c.unwrap-trace.ensures) in
    let own : c.unwrap-trace.result.process ≡ c.loop-p.p =
    trace_is_of c.loop-p.p (results_view c.args.readings.items) (trace_view c.unwrap-trace.result) found in
    let pushed : c.push.new.self.items ≡ c.loop-p.traces.items ++ c.unwrap-trace.result ∷ [] =
    c.in_ok-push.ensures.items in
    record {
      count = rw pushed (grind (arith, common_steps, c.loop-p.invariant.count));
      so_far = c.loop-p.invariant.so_far
          ∙ (ap (λ (xs : List ProcessNames). following (traces_view c.loop-p.traces.items)
          (traces_from c.loop-p.p xs (results_view c.args.readings.items))) rest.1
          ∙ (one_more (traces_view c.loop-p.traces.items) c.loop-p.p rest.0 (drop (c.loop-p.p + 1) c.args.names.now)
          (results_view c.args.readings.items) (trace_view c.unwrap-trace.result) found
          ∙ ap (λ (xs : List readings.Trace).
          following xs (traces_from (c.loop-p.p + 1) (drop (c.loop-p.p + 1) c.args.names.now)
          (results_view c.args.readings.items))) (sym (prefix_push c.loop-p.traces.items c.unwrap-trace.result)
          ∙ ap traces_view (sym pushed))));
      same = λ q above. c.take_trace.ensures.others q (λ (e : q ≡ c.loop-p.p). (omega arith))
          ∙ c.loop-p.invariant.same q (omega arith);
      left = λ limit fit. c.take_trace.ensures.left limit c.args.names.now (c.loop-p.invariant.left limit fit);
      process =
          rw pushed (at_push (λ (k : ℕ) (trace : Trace). trace.process ≡ k) c.loop-p.traces.items c.unwrap-trace.result
          c.loop-p.invariant.process (own ∙ sym c.loop-p.invariant.count));
      fit = λ limit fit.
          rw pushed (at_push (λ (k : ℕ) (trace : Trace). FitsWithin limit c.args.names.now (trace_view trace))
          c.loop-p.traces.items c.unwrap-trace.result (c.loop-p.invariant.fit limit fit)
          ((rw c.unwrap-trace.ensures at c.take_trace.ensures.fits) limit c.args.names.now
          (c.loop-p.invariant.left limit fit)));
    }

pub returns-clause-fits : goal.returns-clause-fits
returns-clause-fits c limit fit = record {
  one_each = omega (
    arith,
    c.loop-p.invariant.count,
    c.loop-p-test.false,
    c.loop-p.auto.p-end,
    c.processes-p-end.ensures,
  );
  process = c.loop-p.invariant.process;
  fit = c.loop-p.invariant.fit limit fit;
}
