-- The order is made of what is kept of each process, and of what is known to the kept events.
use Rattle.std.proofs.Common.{◌≡◌, ◌<◌, List, ℕ, ℤ, All, [], length, map, refl, sym, ◌∙◌, subst, arith}
use Rattle.std.specs.Prelude.{Vec, slice_index_or}
use Rattle.std.specs.Global.{Global}
use Rattle.std.proofs.lemmas.List.{length-map}
use Rattle.def_format.specs.Documents.{NamedPredicate}
use Rattle.def_model.specs.Events.{IsEvent, place}
use Rattle.def_model.specs.Predicates.{Initial}
use Rattle.def_orders.specs.Orders.{IsOver}
use Rattle.pd_clock.specs.Computations.{initial_view, recorded_view}
use Rattle.pd_spec.specs.Named.{named_view}
use Rattle.pd_spec.specs.Views.{document_view}
use Rattle.pd_spec.specs.declared.named.NamedPred.{NamedPred}
use Rattle.pd_spec.specs.declared.spec.Spec.{Spec}
use Rattle.read_traces.specs.Views.{computation_view}
use Rattle.read_traces.specs.declared.event.Trace.{Trace}
use Rattle.judge_orders.specs.Growth.{SeeNoOther}
use Rattle.judge_orders.specs.KeptEvents.{AllAscend}
use Rattle.judge_orders.specs.KeptRuns.{AreWithinLimit, HaveKept, HaveRows, values_view}
use Rattle.judge_orders.specs.KnownRows.{AreKnownRows}
use Rattle.judge_orders.specs.Lists.{lists_view}
use Rattle.judge_orders.specs.OrderViews.{process_view}
use Rattle.judge_orders.proofs.Keeping.{all_ascend}
use Rattle.judge_orders.proofs.KeptFew.{few_kept, many_kept}
use Rattle.judge_orders.proofs.KeptOrders.{have_rows, order_is}
use Rattle.judge_orders.proofs.Places.{lists_length}
use Rattle.judge_orders.proofs.long_order.order_of_traces.Goals as goal

pub traces_kept-requires-clause-rows : goal.traces_kept-requires-clause-rows
traces_kept-requires-clause-rows c =
    let names = (document_view c.args.spec.now).names in
    subst (λ (initial : Initial). HaveRows initial (computation_view c.args.traces.now))
    (sym c.initial_rows-initial.ensures.rows)
    (have_rows c.requires.traces.0 names (document_view c.args.spec.now).initial c.args.traces.now
    c.initial_rows-initial.ensures.fit c.requires.traces.1)

-- what is kept, by the initial values and the variables as they were
have_now : (rows : List (Vec ℤ Global)) (initial : Initial) (traces : List Trace)
    (lent named numbers : List (Vec ℕ Global)) (values : List (Vec ℤ Global)) → initial_view rows ≡ initial
    → lent ≡ named
    → HaveKept (recorded_view (initial_view rows) traces) (lists_view lent) (lists_view numbers) (values_view values)
    (length traces)
    → HaveKept (recorded_view initial traces) (lists_view named) (lists_view numbers) (values_view values)
    (length (computation_view traces))
have_now rows initial traces lent named numbers values same same' have =
    subst (HaveKept (recorded_view initial traces) (lists_view named) (lists_view numbers) (values_view values))
    (sym (length-map traces (λ (process : Trace). process.events)))
    (subst (λ (lists : List (Vec ℕ Global)). HaveKept (recorded_view initial traces) (lists_view lists)
    (lists_view numbers) (values_view values) (length traces)) same'
    (subst (λ (first : Initial). HaveKept (recorded_view first traces) (lists_view lent) (lists_view numbers)
    (values_view values) (length traces)) same have))

-- as many lists as processes
as_many : (traces : List Trace) (lists : List (Vec ℕ Global)) → length lists ≡ length traces
    → length (lists_view lists) ≡ length (computation_view traces)
as_many traces lists same =
    lists_length lists ∙ (same ∙ sym (length-map traces (λ (process : Trace). process.events)))

-- of each process, or of each of the lists that were lent
within_each : (traces : List Trace) (lent numbers : List (Vec ℕ Global)) → lent ≡ numbers
    → length numbers ≡ length traces → AreWithinLimit (lists_view lent) (length lent)
    → AreWithinLimit (lists_view numbers) (length (computation_view traces))
within_each traces lent numbers same many within =
    subst (AreWithinLimit (lists_view numbers))
    (many ∙ sym (length-map traces (λ (process : Trace). process.events)))
    (subst (λ (lists : List (Vec ℕ Global)). AreWithinLimit (lists_view lists) (length lists)) same within)

within_lent : (traces : List Trace) (lent numbers : List (Vec ℕ Global)) → lent ≡ numbers
    → length numbers ≡ length traces → AreWithinLimit (lists_view numbers) (length (computation_view traces))
    → AreWithinLimit (lists_view lent) (length lent)
within_lent traces lent numbers same many within =
    subst (λ (lists : List (Vec ℕ Global)). AreWithinLimit (lists_view lists) (length lists)) (sym same)
    (subst (AreWithinLimit (lists_view numbers))
    (sym (many ∙ sym (length-map traces (λ (process : Trace). process.events)))) within)

-- what is known to the kept events, by the numbers as they were
rows_now : (traces : List Trace) (initial : Initial) (lent numbers : List (Vec ℕ Global))
    (known : List (Vec ℕ Global)) → lent ≡ numbers
    → ((first : Initial) (p : ℕ) → p < length traces
    → AreKnownRows (recorded_view first traces) (lists_view lent) p (slice_index_or (lists_view known) p []))
    → (p : ℕ) → p < length (computation_view traces)
    → AreKnownRows (recorded_view initial traces) (lists_view numbers) p (slice_index_or (lists_view known) p [])
rows_now traces initial lent numbers known same rows p lt =
    subst (λ (lists : List (Vec ℕ Global)).
    AreKnownRows (recorded_view initial traces) (lists_view lists) p (slice_index_or (lists_view known) p [])) same
    (rows initial p (omega (arith, lt, length-map traces (λ (process : Trace). process.events))))

-- the variables are those that the document's predicates name
over_all : (spec : Spec) (named : List (Vec ℕ Global)) (predicates : List NamedPred)
    → map named_view predicates ≡ (document_view spec).predicates
    → All (λ (asked : NamedPredicate). IsOver (lists_view named) asked.predicate) (map named_view predicates)
    → All (λ (asked : NamedPredicate). IsOver (lists_view named) asked.predicate) (document_view spec).predicates
over_all spec named predicates same over =
    subst (All (λ (asked : NamedPredicate). IsOver (lists_view named) asked.predicate)) same over

-- and no others
just_all : (spec : Spec) (traces : List Trace) (named : List (Vec ℕ Global)) (predicates : List NamedPred)
    → map named_view predicates ≡ (document_view spec).predicates
    → SeeNoOther (lists_view named) (length traces) (map named_view predicates)
    → SeeNoOther (lists_view named) (length (computation_view traces)) (document_view spec).predicates
just_all spec traces named predicates same just =
    subst (λ (n : ℕ). SeeNoOther (lists_view named) n (document_view spec).predicates)
    (sym (length-map traces (λ (process : Trace). process.events)))
    (subst (SeeNoOther (lists_view named) (length traces)) same just)

pub returns-then-not-are_within_limit-clause-many : goal.returns-then-not-are_within_limit-clause-many
returns-then-not-are_within_limit-clause-many c =
    let r = recorded_view (document_view c.args.spec.now).initial c.args.traces.now in
    let have =
    have_now c.initial_rows-initial.result.now (document_view c.args.spec.now).initial c.args.traces.now
    c.deref.result.now c.in_ok-named.named.items c.in_ok-numbers.field-0.numbers.items
    c.in_ok-numbers.field-0.values.items c.initial_rows-initial.ensures.rows c.deref.ensures.value
    c.in_ok-numbers.ensures.kept in
    many_kept (document_view c.args.spec.now) r (lists_view c.in_ok-named.named.items)
    (lists_view c.in_ok-numbers.field-0.numbers.items)
    (as_many c.args.traces.now c.in_ok-named.named.items c.in_ok-named.ensures.one_each)
    (over_all c.args.spec.now c.in_ok-named.named.items _ c.predicates.ensures c.in_ok-named.ensures.over)
    (just_all c.args.spec.now c.args.traces.now c.in_ok-named.named.items _ c.predicates.ensures
    c.in_ok-named.ensures.just) have.kept
    (λ within.
    let yes =
    c.if-not-are_within_limit.ensures.1
    (within_lent c.args.traces.now c.deref-2.result.now c.in_ok-numbers.field-0.numbers.items
    c.deref-2.ensures.value c.in_ok-numbers.ensures.all_numbers within) in
    cc yes)

pub known_rows-requires-clause-ascend : goal.known_rows-requires-clause-ascend
known_rows-requires-clause-ascend c =
    let r = recorded_view (document_view c.args.spec.now).initial c.args.traces.now in
    let have =
    have_now c.initial_rows-initial.result.now (document_view c.args.spec.now).initial c.args.traces.now
    c.deref.result.now c.in_ok-named.named.items c.in_ok-numbers.field-0.numbers.items
    c.in_ok-numbers.field-0.values.items c.initial_rows-initial.ensures.rows c.deref.ensures.value
    c.in_ok-numbers.ensures.kept in
    subst (λ (numbers : List (Vec ℕ Global)). AllAscend (lists_view numbers)) (sym c.deref-3.ensures.value)
    (all_ascend r (lists_view c.in_ok-named.named.items) (lists_view c.in_ok-numbers.field-0.numbers.items)
    (as_many c.args.traces.now c.in_ok-numbers.field-0.numbers.items c.in_ok-numbers.ensures.all_numbers) have.kept)

pub known_rows-requires-clause-there : goal.known_rows-requires-clause-there
known_rows-requires-clause-there c =
    let have =
    have_now c.initial_rows-initial.result.now (document_view c.args.spec.now).initial c.args.traces.now
    c.deref.result.now c.in_ok-named.named.items c.in_ok-numbers.field-0.numbers.items
    c.in_ok-numbers.field-0.values.items c.initial_rows-initial.ensures.rows c.deref.ensures.value
    c.in_ok-numbers.ensures.kept in
    subst (λ (numbers : List (Vec ℕ Global)). (p : ℕ) → p < length numbers
    → All (λ (n : ℕ). IsEvent (computation_view c.args.traces.now) (place p n))
    (slice_index_or (lists_view numbers) p [])) (sym c.deref-3.ensures.value)
    (λ p lt.
    (have.kept p (omega (
      arith,
      lt,
      as_many c.args.traces.now c.in_ok-numbers.field-0.numbers.items c.in_ok-numbers.ensures.all_numbers,
      lists_length c.in_ok-numbers.field-0.numbers.items,
    ))).events)

pub returns-clause-found : goal.returns-clause-found
returns-clause-found c =
    let r = recorded_view (document_view c.args.spec.now).initial c.args.traces.now in
    let have =
    have_now c.initial_rows-initial.result.now (document_view c.args.spec.now).initial c.args.traces.now
    c.deref.result.now c.in_ok-named.named.items c.in_ok-numbers.field-0.numbers.items
    c.in_ok-numbers.field-0.values.items c.initial_rows-initial.ensures.rows c.deref.ensures.value
    c.in_ok-numbers.ensures.kept in
    record {
      order = record {
        is_order = order_is r (lists_view c.in_ok-named.named.items)
            (lists_view c.in_ok-numbers.field-0.numbers.items) (values_view c.in_ok-numbers.field-0.values.items)
            (lists_view c.in_ok-known.known.items) (map process_view c.in_ok-processes.processes.items)
            (as_many c.args.traces.now c.in_ok-named.named.items c.in_ok-named.ensures.one_each)
            (as_many c.args.traces.now c.in_ok-numbers.field-0.numbers.items c.in_ok-numbers.ensures.all_numbers)
            (length-map c.in_ok-numbers.field-0.values.items (λ (list : Vec ℤ Global). list.items)
            ∙ (c.in_ok-numbers.ensures.all_values
            ∙ sym (length-map c.args.traces.now (λ (process : Trace). process.events))))
            (as_many c.args.traces.now c.in_ok-known.known.items c.in_ok-known.ensures.rows.0) have
            (rows_now c.args.traces.now (document_view c.args.spec.now).initial c.deref-3.result.now
            c.in_ok-numbers.field-0.numbers.items c.in_ok-known.known.items c.deref-3.ensures.value
            c.in_ok-known.ensures.rows.1) c.in_ok-processes.ensures;
        over = over_all c.args.spec.now c.in_ok-named.named.items _ c.predicates.ensures c.in_ok-named.ensures.over;
        just = just_all c.args.spec.now c.args.traces.now c.in_ok-named.named.items _ c.predicates.ensures
            c.in_ok-named.ensures.just;
      };
      one_each =
          as_many c.args.traces.now c.in_ok-numbers.field-0.numbers.items c.in_ok-numbers.ensures.all_numbers;
      kept = have.kept;
    }

pub returns-clause-few : goal.returns-clause-few
returns-clause-few c =
    let r = recorded_view (document_view c.args.spec.now).initial c.args.traces.now in
    let have =
    have_now c.initial_rows-initial.result.now (document_view c.args.spec.now).initial c.args.traces.now
    c.deref.result.now c.in_ok-named.named.items c.in_ok-numbers.field-0.numbers.items
    c.in_ok-numbers.field-0.values.items c.initial_rows-initial.ensures.rows c.deref.ensures.value
    c.in_ok-numbers.ensures.kept in
    few_kept (document_view c.args.spec.now) r (lists_view c.in_ok-named.named.items)
    (lists_view c.in_ok-numbers.field-0.numbers.items)
    (as_many c.args.traces.now c.in_ok-named.named.items c.in_ok-named.ensures.one_each)
    (over_all c.args.spec.now c.in_ok-named.named.items _ c.predicates.ensures c.in_ok-named.ensures.over) have.kept
    (within_each c.args.traces.now c.deref-2.result.now c.in_ok-numbers.field-0.numbers.items
    c.deref-2.ensures.value c.in_ok-numbers.ensures.all_numbers (c.if-not-are_within_limit.ensures.0 refl))
