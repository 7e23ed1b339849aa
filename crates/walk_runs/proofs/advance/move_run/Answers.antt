-- A run one level on: its ends move as events can be added there.
use Rattle.std.proofs.Common.{◌≡◌, ◌+◌, ◌-◌, ◌≤◌, ℕ, true, cond, length, sym, ◌∙◌, subst, arith}
use Rattle.std.proofs.lemmas.Bool.{false≢true}
use Rattle.def_format.specs.Limits.{event_limit}
use Rattle.walk_keys.specs.Keys.{digits}
use Rattle.def_model.specs.Events.{event_count, place}
use Rattle.def_model.specs.Cuts.{IsConsistent}
use Rattle.walk_keys.specs.Neighbors.{cut_at}
use Rattle.walk_runs.specs.Births.{IsReceivedBelow}
use Rattle.walk_runs.specs.Kept.{KeyedRun}
use Rattle.walk_runs.specs.KeptRuns.{IsMoved, level_of, run_view}
use Rattle.walk_runs.specs.WholeLevels.{IsMovedTo, IsRunOf, Run}
use Rattle.walk_runs.proofs.RunSteps.{KeptEnds, kept_ends, last_counts, more_last, is_moved, never_moved}
use Rattle.walk_runs.proofs.advance.move_run.Goals as goal
use Rattle.walk_runs.proofs.advance.move_run.Goals.{then-stays, else-stays, then-goes, else-goes, then-goes-2, else-goes-2, then-stays-2, else-stays-2}

pub overflow_add-x : goal.overflow_add-x
overflow_add-x g c = omega (arith, c.prefix-x.ensures, c.limits.ensures.few)

pub can_add-stays-requires-clause-within : goal.can_add-stays-requires-clause-within
can_add-stays-requires-clause-within g c = omega (arith, c.prefix-x.ensures, c.limits.ensures.two)

pub overflow_add-lo : goal.overflow_add-lo
overflow_add-lo g c =
    let run : KeyedRun = record {
      key = g.K.Key.number c.run.inside.key;
      lo = c.run.inside.lo;
      hi = c.run.inside.hi;
      rest = c.run.inside.rest;
    } in
    let is : IsRunOf c.args.steps.now (level_of (length c.args.steps.now - 2) run)
    (run_view (length c.args.steps.now - 2) run) =
    subst (λ (r : KeyedRun). IsRunOf c.args.steps.now (level_of (length c.args.steps.now - 2) r)
    (run_view (length c.args.steps.now - 2) r)) (sym c.run.view_is) c.requires.run in
    let ends : KeptEnds c.args.steps.now run = kept_ends c.args.steps.now run is in
    let w = last_counts c.args.steps.now c.limits.ensures.two (g.K.Key.number c.run.inside.key) c.run.inside.hi
    (c.run.inside.rest - c.run.inside.hi) ends.greatest in
    let x : c.run.inside.hi ≤ event_count c.args.steps.now (length c.args.steps.now - 2) = w.0 in
    let few : event_count c.args.steps.now (length c.args.steps.now - 2) ≤ event_limit =
    c.limits.ensures.short (length c.args.steps.now - 2) in
    omega (arith, ends.some)

pub overflow_add-hi : goal.overflow_add-hi
overflow_add-hi g c =
    let run : KeyedRun = record {
      key = g.K.Key.number c.run.inside.key;
      lo = c.run.inside.lo;
      hi = c.run.inside.hi;
      rest = c.run.inside.rest;
    } in
    let is : IsRunOf c.args.steps.now (level_of (length c.args.steps.now - 2) run)
    (run_view (length c.args.steps.now - 2) run) =
    subst (λ (r : KeyedRun). IsRunOf c.args.steps.now (level_of (length c.args.steps.now - 2) r)
    (run_view (length c.args.steps.now - 2) r)) (sym c.run.view_is) c.requires.run in
    let ends : KeptEnds c.args.steps.now run = kept_ends c.args.steps.now run is in
    let w = last_counts c.args.steps.now c.limits.ensures.two (g.K.Key.number c.run.inside.key) c.run.inside.hi
    (c.run.inside.rest - c.run.inside.hi) ends.greatest in
    let x : c.run.inside.hi ≤ event_count c.args.steps.now (length c.args.steps.now - 2) = w.0 in
    let few : event_count c.args.steps.now (length c.args.steps.now - 2) ≤ event_limit =
    c.limits.ensures.short (length c.args.steps.now - 2) in
    omega arith

pub overflow_add-rest : goal.overflow_add-rest
overflow_add-rest g c =
    let run : KeyedRun = record {
      key = g.K.Key.number c.run.inside.key;
      lo = c.run.inside.lo;
      hi = c.run.inside.hi;
      rest = c.run.inside.rest;
    } in
    let is : IsRunOf c.args.steps.now (level_of (length c.args.steps.now - 2) run)
    (run_view (length c.args.steps.now - 2) run) =
    subst (λ (r : KeyedRun). IsRunOf c.args.steps.now (level_of (length c.args.steps.now - 2) r)
    (run_view (length c.args.steps.now - 2) r)) (sym c.run.view_is) c.requires.run in
    let ends : KeptEnds c.args.steps.now run = kept_ends c.args.steps.now run is in
    let w = last_counts c.args.steps.now c.limits.ensures.two (g.K.Key.number c.run.inside.key) c.run.inside.hi
    (c.run.inside.rest - c.run.inside.hi) ends.greatest in
    let x : c.run.inside.hi ≤ event_count c.args.steps.now (length c.args.steps.now - 2) = w.0 in
    let y : c.run.inside.rest - c.run.inside.hi ≤ event_count c.args.steps.now (length c.args.steps.now - 1) = w.1 in
    let few : event_count c.args.steps.now (length c.args.steps.now - 2) ≤ event_limit =
    c.limits.ensures.short (length c.args.steps.now - 2) in
    let few_y : event_count c.args.steps.now (length c.args.steps.now - 1) ≤ event_limit =
    c.limits.ensures.short (length c.args.steps.now - 1) in
    omega arith

pub may_send_y-low-requires : goal.may_send_y-low-requires
may_send_y-low-requires g c =
    let last : c.prefix-x.result + 1 ≡ length c.args.steps.now - 1 =
    omega (arith, c.prefix-x.ensures, c.limits.ensures.two) in
    let ok : IsConsistent c.args.steps.now (cut_at (digits (length c.args.steps.now - 2)
    (g.K.Key.number c.run.inside.key)) c.run.inside.lo
    (c.run.inside.rest - c.run.inside.lo + 1)) =
    subst (IsConsistent c.args.steps.now) (more_last c.args.steps.now c.limits.ensures.two
    (g.K.Key.number c.run.inside.key)
    c.run.inside.lo (c.run.inside.rest - c.run.inside.lo) (c.prefix-x.result + 1) last)
    (c.can_add-stays.ensures.0 c.if-stays-2.true) in
    let w = last_counts c.args.steps.now c.limits.ensures.two (g.K.Key.number c.run.inside.key) c.run.inside.lo
    (c.run.inside.rest - c.run.inside.lo + 1) ok in
    let y : c.run.inside.rest - c.run.inside.lo + 1 ≤ event_count c.args.steps.now (length c.args.steps.now - 1) = w.1
    in
    let same : c.if-stays.lo ≡ c.run.inside.lo = elim c.if-stays.branch [
      | then-stays w ↦ w.lo-is
      | else-stays w ↦ absurd (false≢true (sym w.if-stays.false ∙ c.if-stays-2.true))
    ] in
    omega (arith, c.from-then-stays-2.ensures)

pub returns-then-lo-hi-clause-none : goal.returns-then-lo-hi-clause-none
returns-then-lo-hi-clause-none g c =
    let run : KeyedRun = record {
      key = g.K.Key.number c.run.inside.key;
      lo = c.run.inside.lo;
      hi = c.run.inside.hi;
      rest = c.run.inside.rest;
    } in
    let p_is : c.prefix-x.result ≡ length c.args.steps.now - 2 = c.prefix-x.ensures in
    let q_is : c.prefix-x.result + 1 ≡ length c.args.steps.now - 1 =
    omega (arith, c.prefix-x.ensures, c.limits.ensures.two) in
    let lo_is : c.if-stays.lo ≡ cond c.can_add-stays.result c.run.inside.lo (c.run.inside.lo + 1) =
    elim c.if-stays.branch [
      | then-stays w ↦ rw (w.if-stays.true) (w.lo-is)
      | else-stays w ↦ rw (w.if-stays.false) (w.lo-is)
    ] in
    let hi_is : c.if-goes.hi ≡ cond c.can_add-goes.result (c.run.inside.hi + 1) c.run.inside.hi =
    elim c.if-goes.branch [
      | then-goes w ↦ rw (w.if-goes.true) (w.hi-is)
      | else-goes w ↦ rw (w.if-goes.false) (w.hi-is)
    ] in
    subst (λ (r : KeyedRun). (new : Run) → IsMovedTo c.args.steps.now (level_of (length c.args.steps.now - 2) r)
    (run_view (length c.args.steps.now - 2) r) new → ¬ (new.lo ≤ new.hi)) c.run.view_is
    (never_moved c.args.steps.now c.limits.ensures.two run c.prefix-x.result (c.prefix-x.result + 1) p_is q_is
    c.can_add-stays.result c.can_add-goes.result c.can_add-stays.ensures c.can_add-goes.ensures c.if-stays.lo
    c.if-goes.hi lo_is hi_is c.if-lo-hi.true)

pub returns-clause-some : goal.returns-clause-some
returns-clause-some g c =
    let run : KeyedRun = record {
      key = g.K.Key.number c.run.inside.key;
      lo = c.run.inside.lo;
      hi = c.run.inside.hi;
      rest = c.run.inside.rest;
    } in
    let p_is : c.prefix-x.result ≡ length c.args.steps.now - 2 = c.prefix-x.ensures in
    let q_is : c.prefix-x.result + 1 ≡ length c.args.steps.now - 1 =
    omega (arith, c.prefix-x.ensures, c.limits.ensures.two) in
    let lo_is : c.if-stays.lo ≡ cond c.can_add-stays.result c.run.inside.lo (c.run.inside.lo + 1) =
    elim c.if-stays.branch [
      | then-stays w ↦ rw (w.if-stays.true) (w.lo-is)
      | else-stays w ↦ rw (w.if-stays.false) (w.lo-is)
    ] in
    let hi_is : c.if-goes.hi ≡ cond c.can_add-goes.result (c.run.inside.hi + 1) c.run.inside.hi =
    elim c.if-goes.branch [
      | then-goes w ↦ rw (w.if-goes.true) (w.hi-is)
      | else-goes w ↦ rw (w.if-goes.false) (w.hi-is)
    ] in
    let top : c.can_add-goes.result ≡ true → IsReceivedBelow c.args.steps.now (length c.args.steps.now - 2)
    (place (length c.args.steps.now - 2) c.if-goes.hi) → c.if-goes-2.top ≡ true =
    (λ e sends. elim c.if-goes-2.branch [
      | then-goes-2 w ↦
          w.top-is ∙ w.may_send_x-top.ensures.1 (subst (λ (m : ℕ). IsReceivedBelow c.args.steps.now
          (length c.args.steps.now - 2) (place (length c.args.steps.now - 2) m)) (sym w.from.ensures) sends)
      | else-goes-2 w ↦ absurd (false≢true (sym w.if-goes-2.false ∙ e))
    ]) in
    let low : c.can_add-stays.result ≡ true → IsReceivedBelow c.args.steps.now (length c.args.steps.now - 2)
    (place (length c.args.steps.now - 1) (c.run.inside.rest + 1 - c.if-stays.lo)) → c.if-stays-2.low ≡ true =
    (λ e sends. elim c.if-stays-2.branch [
      | then-stays-2 w ↦
          w.low-is ∙ w.may_send_y-low.ensures.1 (subst (λ (m : ℕ). IsReceivedBelow c.args.steps.now
          (length c.args.steps.now - 2) (place (length c.args.steps.now - 1) m)) (sym w.from-then-stays-2.ensures)
          sends)
      | else-stays-2 w ↦ absurd (false≢true (sym w.if-stays-2.false ∙ e))
    ]) in
    subst (λ (r : KeyedRun). IsMoved c.args.steps.now r (record {
      key = g.K.Key.number c.run.inside.key;
      lo = c.if-stays.lo;
      hi = c.if-goes.hi;
      rest = c.run.inside.rest + 1;
    }) c.if-goes-2.top c.if-stays-2.low) c.run.view_is
    (is_moved c.args.steps.now c.limits.ensures.two run c.prefix-x.result (c.prefix-x.result + 1) p_is q_is
    c.can_add-stays.result c.can_add-goes.result c.can_add-stays.ensures c.can_add-goes.ensures c.if-stays.lo
    c.if-goes.hi lo_is hi_is c.if-lo-hi.false c.if-goes-2.top c.if-stays-2.low top low)
