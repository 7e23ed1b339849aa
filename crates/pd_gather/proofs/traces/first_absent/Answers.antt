-- The first process without a trace is the one that a session's traces lack.
use Rattle.std.proofs.Common.{◌≡◌, ◌+◌, ◌<◌, ◌++◌, ◌∷◌, [], List, length, drop, ap, sym, ◌∙◌, arith}
use Rattle.std.specs.Prelude.{None}
use Rattle.def_format.specs.Names.{ProcessNames}
use Rattle.def_format.specs.Sessions.{trace_of, traces_from}
use Rattle.pd_gather.specs.Views.{results_view}
use Rattle.pd_gather.proofs.Places.{any_found, dropped, following, none_found, none_more, one_more, some_found}
use Rattle.pd_gather.proofs.traces.first_absent.Goals as goal

pub returns-then-not-has_joined : goal.returns-then-not-has_joined
returns-then-not-has_joined c =
    let within : c.loop-p.p < length c.args.names.now = omega (arith, c.loop-p-test.true, c.processes-p-end.ensures) in
    let rest = dropped c.args.names.now c.loop-p.p within in
    let absent : trace_of c.loop-p.p (results_view c.args.readings.now) ≡ None =
    none_found (trace_of c.loop-p.p (results_view c.args.readings.now))
    (sym (any_found c.loop-p.p c.args.readings.now) ∙ sym c.if-not-has_joined.ensures) in
    c.loop-p.invariant.1
    ∙ (ap (λ (xs : List ProcessNames). following c.loop-p.invariant.0
    (traces_from c.loop-p.p xs (results_view c.args.readings.now))) rest.1
    ∙ none_more c.loop-p.invariant.0 c.loop-p.p rest.0 (drop (c.loop-p.p + 1) c.args.names.now)
    (results_view c.args.readings.now) absent)

pub loop-p-preserved : goal.loop-p-preserved
loop-p-preserved c =
    let within : c.loop-p.p < length c.args.names.now = omega (arith, c.loop-p-test.true, c.processes-p-end.ensures) in
    let rest = dropped c.args.names.now c.loop-p.p within in
    let found = some_found (trace_of c.loop-p.p (results_view c.args.readings.now))
    (sym (any_found c.loop-p.p c.args.readings.now) ∙ sym c.if-not-has_joined.ensures) in (
      c.loop-p.invariant.0 ++ found.0 ∷ [],
      c.loop-p.invariant.1
          ∙ (ap (λ (xs : List ProcessNames). following c.loop-p.invariant.0
          (traces_from c.loop-p.p xs (results_view c.args.readings.now))) rest.1
          ∙ one_more c.loop-p.invariant.0 c.loop-p.p rest.0 (drop (c.loop-p.p + 1) c.args.names.now)
          (results_view c.args.readings.now) found.0 found.1),
    )
