-- The traces fit the initial values, and what is kept makes up the order.
use Rattle.std.proofs.Common.{◌≡◌, ◌<◌, ℕ, zero, suc, ℤ, List, [], ◌∷◌, All, get_or, length, refl, sym, ap, ◌∙◌, subst, arith}
use Rattle.std.specs.Prelude.{None, Option, Some, slice_get, slice_index_or}
use Rattle.std.proofs.lemmas.List.{length-map}
use Rattle.def_format.specs.Names.{ProcessNames, vars_of}
use Rattle.def_format.specs.ReadingLaws.{FitsProcess}
use Rattle.def_model.specs.Events.{Event, events_of}
use Rattle.def_model.specs.Predicates.{Initial, Recorded}
use Rattle.def_orders.specs.Orders as orders
use Rattle.def_orders.specs.Orders.{IsOrderOf, IsSeenOf}
use Rattle.judge_orders.specs.KeptRuns.{HaveKept, HaveRows, orders_with}
use Rattle.judge_orders.specs.KnownRows.{AreKnownRows}
use Rattle.pd_clock.specs.Histories.{AreVars}
use Rattle.read_traces.specs.InitialRows.{AreInitialRows}
use Rattle.read_traces.specs.SessionTraces.{AreTracesWithin}
use Rattle.read_traces.specs.Views.{computation_view}
use Rattle.read_traces.specs.declared.event.Trace.{Trace}

-- ---- the traces

abbrev events_in : Option Trace → List Event
events_in None = []
events_in (Some trace) = trace.events

events_at : (traces : List Trace) (p : ℕ) → events_of (computation_view traces) p ≡ events_in (slice_get traces p)
events_at [] p = refl
events_at (trace ∷ traces) zero = refl
events_at (trace ∷ traces) (suc p) = events_at traces p

-- events set variables that are there
known_vars : (names : List ProcessNames) (p n : ℕ) → length (vars_of names p) ≡ n → (events : List Event)
    → All (FitsProcess names p) events → All (λ (event : Event). AreVars n event.sets) events
known_vars names p n same events fits k d lt =
    subst (λ (m : ℕ). AreVars m (get_or events k d).sets) same (fits k d lt).known

pub have_rows : (limit : ℕ) (names : List ProcessNames) (initial : Initial) (traces : List Trace)
    → AreInitialRows names initial → AreTracesWithin limit names traces
    → HaveRows initial (computation_view traces)
have_rows limit names initial traces fit are = record {
  one_each =
      fit.one_each ∙ (sym are.one_each ∙ sym (length-map traces (λ (process : Trace). process.events)));
  vars = λ p.
      subst (λ (events : List Event).
      All (λ (event : Event). AreVars (length (slice_index_or initial p [])) event.sets) events)
      (sym (events_at traces p)) (go p (slice_get traces p) refl);
}
  where
    at : (p : ℕ) (trace : Trace) → slice_get traces p ≡ Some trace
        → All (λ (event : Event). AreVars (length (slice_index_or initial p [])) event.sets) trace.events
    at p trace there =
        known_vars names p (length (slice_index_or initial p [])) (sym (fit.values p)) trace.events
        (subst (λ (q : ℕ). All (FitsProcess names q) trace.events) (are.process p trace there)
        (are.fit p trace there).events_fit)

    go : (p : ℕ) (found : Option Trace) → slice_get traces p ≡ found
        → All (λ (event : Event). AreVars (length (slice_index_or initial p [])) event.sets) (events_in found)
    go p None there = λ k d lt. absurd (omega (arith, lt))
    go p (Some trace) there = at p trace there

-- ---- the order

order_at : (values : List (List ℤ)) (known : List (List ℕ)) (p : ℕ) (of : orders.ProcessOrder) → p < length values
    → p < length known → slice_index_or (orders_with values known) p of
    ≡ record { values = slice_index_or values p []; known = slice_index_or known p [] }
order_at [] known p of lt lt' = absurd (omega (arith, lt))
order_at (v ∷ values) [] p of lt lt' = absurd (omega (arith, lt'))
order_at (v ∷ values) (k ∷ known) zero of lt lt' = refl
order_at (v ∷ values) (k ∷ known) (suc p) of lt lt' =
    order_at values known p of (omega (arith, lt)) (omega (arith, lt'))

orders_length : (values : List (List ℤ)) (known : List (List ℕ)) → length values ≡ length known
    → length (orders_with values known) ≡ length values
orders_length [] known same = refl
orders_length (v ∷ values) [] same = absurd (omega (arith, same))
orders_length (v ∷ values) (k ∷ known) same = ap suc (orders_length values known (omega (arith, same)))

pub order_is : (r : Recorded) (named numbers : List (List ℕ)) (values : List (List ℤ)) (known : List (List ℕ))
    (order : List orders.ProcessOrder) → length named ≡ length r.events → length numbers ≡ length r.events
    → length values ≡ length r.events → length known ≡ length r.events
    → HaveKept r named numbers values (length r.events)
    → ((p : ℕ) → p < length r.events → AreKnownRows r numbers p (slice_index_or known p []))
    → order ≡ orders_with values known → IsOrderOf r named order
order_is r named numbers values known order all_named all_kept all_values all_known have rows is = record {
  numbers = numbers;
  all_named = all_named;
  all_kept = all_kept;
  all_seen = ap (λ (xs : List orders.ProcessOrder). length xs) is
      ∙ (orders_length values known (all_values ∙ sym all_known) ∙ all_values);
  each = λ p of lt.
      subst (IsSeenOf r (slice_index_or named p []) numbers p)
      (sym (ap (λ (xs : List orders.ProcessOrder). slice_index_or xs p of) is
      ∙ order_at values known p of (omega (arith, lt, all_values)) (omega (arith, lt, all_known))))
      (record {
        kept = have.kept p lt;
        values = have.values_are p lt;
        rows = (rows p lt).rows;
        are_rows = (rows p lt).are_rows;
        known = (rows p lt).is;
      });
}
