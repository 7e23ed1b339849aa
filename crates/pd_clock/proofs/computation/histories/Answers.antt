-- The histories, one for each process.
use Rattle.std.proofs.Common.{◌≡◌, ℕ, ◌<◌, ◌≤◌, ◌++◌, List, [], ◌∷◌, length, length-append, refl, sym, ap, ◌∙◌, arith, subst, below_more, inl, inr, ◌⊎◌}
use Rattle.std.specs.Prelude.{All}
use Rattle.std.proofs.lemmas.Bool.{cases_lt}
use Rattle.def_model.specs.Events.{Event, events_of}
use Rattle.pd_clock.specs.Histories.{AreVars, rows_after}
use Rattle.read_traces.specs.declared.event.Trace.{Trace}
use Rattle.read_traces.specs.Views.{computation_view}
use Rattle.pd_clock.specs.States.{history_at, values_at}
use Rattle.pd_clock.proofs.Parts.{got, values_read, values_past, history_before, history_last, history_past, events_read, events_past}
use Rattle.pd_clock.proofs.computation.histories.Goals as goal

-- what holds of each event's settings holds of them by other names
moved : (vars other : ℕ) (events others : List Event) → vars ≡ other → events ≡ others
    → All (λ (event : Event). AreVars vars event.sets) events
    → All (λ (event : Event). AreVars other event.sets) others
moved vars other events others e f h =
    subst (λ (n : ℕ). All (λ (event : Event). AreVars n event.sets) others) e
    (subst (λ (xs : List Event). All (λ (event : Event). AreVars vars event.sets) xs) f h)

pub history-requires : goal.history-requires
history-requires c =
    let within : c.loop-p.p < length c.args.traces.now = c.loop-p-test.true in
    let there : c.loop-p.p < length c.args.initial.now = omega (arith, c.requires.same) in
    let row : values_at c.args.initial.now c.loop-p.p ≡ c.index-initial-p.result.items =
    values_read c.args.initial.now c.loop-p.p c.index-initial-p.result there c.index-initial-p.is in
    moved (length (values_at c.args.initial.now c.loop-p.p)) (length c.deref.result.now)
    c.index-traces-p.result.events _
    (ap length (row ∙ sym c.deref.ensures.value)) (ap (λ (t : Trace). t.events) c.index-traces-p.is)
    (c.requires.vars c.loop-p.p c.index-traces-p.result
    (got c.args.traces.now c.loop-p.p c.index-traces-p.result within c.index-traces-p.is))

pub loop-p-preserved : goal.loop-p-preserved
loop-p-preserved c =
    let within : c.loop-p.p < length c.args.traces.now = c.loop-p-test.true in
    let there : c.loop-p.p < length c.args.initial.now = omega (arith, c.requires.same) in
    let row : values_at c.args.initial.now c.loop-p.p ≡ c.index-initial-p.result.items =
    values_read c.args.initial.now c.loop-p.p c.index-initial-p.result there c.index-initial-p.is in
    let events : events_of (computation_view c.args.traces.now) c.loop-p.p
    ≡ c.index-traces-p.result.events =
    events_read c.args.traces.now c.loop-p.p c.index-traces-p.result within c.index-traces-p.is in
    let pushed : c.push.new.self.items ≡ c.loop-p.histories.items ++ c.in_ok-history.field-0 ∷ [] =
    c.in_ok-push.ensures.items in
    let made : c.in_ok-history.field-0 ≡ c.deref.result.now
    ++ rows_after c.deref.result.now c.index-traces-p.result.events =
    c.in_ok-history.ensures
    ∙ ap (λ (t : Trace). c.deref.result.now ++ rows_after c.deref.result.now t.events) (sym c.index-traces-p.is) in
    record {
      count = rw pushed (simp (length-append) (omega (arith, c.loop-p.invariant.count)));
      rows = below_more (λ (k : ℕ). history_at c.push.new.self.items k ≡ values_at c.args.initial.now k
          ++ rows_after (values_at c.args.initial.now k) (events_of (computation_view c.args.traces.now) k)) c.loop-p.p
          (λ k lt. rw pushed (history_before c.loop-p.histories.items c.in_ok-history.field-0 k
          (omega (arith, c.loop-p.invariant.count)) ∙ c.loop-p.invariant.rows k lt))
          (rw (pushed, row, events) (history_last c.loop-p.histories.items c.in_ok-history.field-0 c.loop-p.p
          (sym c.loop-p.invariant.count)
          ∙ (made ∙ rw c.deref.ensures.value refl)));
    }

pub returns : goal.returns
returns c =
    let all : length c.args.traces.now ≤ c.loop-p.p = c.loop-p-test.false in
    let end : c.loop-p.p ≡ length c.args.traces.now = omega arith in
    record {
      fits = c.requires;
      one_each = omega (arith, c.requires.same, c.loop-p.invariant.count);
      rows = λ p. go p (cases_lt p c.loop-p.p);
    }
  where
    go : (p : ℕ) → (p < c.loop-p.p) ⊎ (c.loop-p.p ≤ p) → history_at c.loop-p.histories.items p
        ≡ values_at c.args.initial.now p ++ rows_after (values_at c.args.initial.now p)
        (events_of (computation_view c.args.traces.now) p)
    go p (inl lt) = c.loop-p.invariant.rows p lt
    go p (inr le) =
        let all : length c.args.traces.now ≤ c.loop-p.p = c.loop-p-test.false in
        rw (
          history_past c.loop-p.histories.items p (omega (arith, c.loop-p.invariant.count)),
          values_past c.args.initial.now p (omega (arith, c.requires.same)),
          events_past c.args.traces.now p (omega arith),
        ) refl
