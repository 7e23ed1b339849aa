-- The traces fit the session, and if no cycle is reported all events have their clocks.
use Rattle.std.proofs.Common.{◌≡◌, ◌≤◌, ℤ, List, Option, Some, None, length, refl, sym, subst, rules}
use Rattle.std.specs.Prelude.{IfNone, Vec}
use Rattle.std.specs.Global.{Global}
use Rattle.def_format.specs.Limits.{process_limit}
use Rattle.def_format.specs.Names.{ProcessNames}
use Rattle.def_model.specs.Order.{HasNoCycle}
use Rattle.def_model.specs.Predicates.{Initial}
use Rattle.read_traces.specs.InitialRows.{AreInitialRows}
use Rattle.read_traces.specs.Views.{computation_view}
use Rattle.read_traces.specs.SessionTraces.{AreTraces}
use Rattle.read_traces.specs.declared.event.Trace.{Trace}
use Rattle.pd_clock.specs.Computations.{FitsInitial, initial_view}
use Rattle.pd_clock.proofs.FitTraces.{fits_initial}
use Rattle.pd_clock.proofs.PastFacts.{all_clocks}
use Rattle.pd_clock.proofs.computation.Computation.build.Goals as goal

none_reported : {A : Type 0} (reported : Option A) (P : Type 0) → ((x : A) → reported ≡ Some x → ⊥) → IfNone reported P
    → P
none_reported None P no_place holds = holds
none_reported (Some x) P no_place holds = absurd (no_place x refl)

-- the traces fit the session's values, which are these
fits : (names : List ProcessNames) (initial : Initial) (rows : List (Vec ℤ Global)) (traces : List Trace)
    → initial_view rows ≡ initial → AreInitialRows names initial → AreTraces names traces
    → length traces ≤ process_limit → FitsInitial rows traces
fits names initial rows traces same fit are few =
    fits_initial names rows traces (subst (λ (values : Initial). AreInitialRows names values) (sym same) fit) are few

pub put_in_order-requires-clause-short : goal.put_in_order-requires-clause-short
put_in_order-requires-clause-short g c =
    (fits (g.S.InitialValues.names c.args.session.now) (g.S.InitialValues.initial c.args.session.now)
    c.initial_rows-initial.result.now c.args.traces.now c.initial_rows-initial.ensures.rows
    c.initial_rows-initial.ensures.fit c.requires.traces
    (let few : length c.args.traces.now ≤ process_limit = search rules in few)).short

pub histories-requires : goal.histories-requires
histories-requires g c =
    fits (g.S.InitialValues.names c.args.session.now) (g.S.InitialValues.initial c.args.session.now)
    c.initial_rows-initial.result.now c.args.traces.now c.initial_rows-initial.ensures.rows
    c.initial_rows-initial.ensures.fit c.requires.traces
    (let few : length c.args.traces.now ≤ process_limit = search rules in few)

pub invariant_of-result : goal.invariant_of-result
invariant_of-result g c =
    let acyclic : HasNoCycle (computation_view c.args.traces.now) =
    none_reported c.in_ok-places.field-0 (HasNoCycle (computation_view c.args.traces.now)) c.in_default.not-Some
    c.in_ok-places.ensures.none in (
      c.in_ok-histories.ensures,
      all_clocks (computation_view c.args.traces.now) c.in_ok-done.field-0.done.items
          c.in_ok-done.field-0.clocks.items acyclic c.in_ok-done.ensures.stuck c.in_ok-done.ensures.clocks,
      acyclic,
      c.requires.messages,
    )
