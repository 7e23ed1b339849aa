-- The next event is kept, or it leaves what is seen as it was.
use Rattle.std.proofs.Common.{◌≡◌, ◌+◌, ◌++◌, ℕ, ℤ, List, ap, drop, length, refl, sym, subst, take, ◌∙◌, arith}
use Rattle.std.specs.Prelude.{Vec}
use Rattle.std.specs.Global.{Global}
use Rattle.pd_clock.specs.Histories.{AreVars}
use Rattle.pd_clock.proofs.HistorySteps.{vars_there}
use Rattle.judge_orders.specs.ProcessEvents.{seen_in}
use Rattle.judge_orders.proofs.SeenRows.{IsKeptSoFar, length-row_of, so_far_all, so_far_first, so_far_more, so_far_same}
use Rattle.judge_orders.proofs.process_kept.process_kept.Goals as goal
use Rattle.judge_orders.proofs.process_kept.process_kept.Goals.{then-changes_seen+in_ok-push_seen-2+in_ok-push, else-changes_seen}

pub loop-k-init : goal.loop-k-init
loop-k-init c =
    so_far_first c.args.start.now c.in_ok-row.row.items c.args.events.now c.args.vars.now c.new-numbers.result.items
    c.new-values.result.items c.push_seen.new.values.items
    (c.in_ok-row.ensures.items_if_clones_equal (λ x y same. same)) c.new-numbers.ensures.items
    c.new-values.ensures.items
    (c.in_ok-push_seen.ensures
    ∙ ap (λ (row : List ℤ). c.new-values.result.items ++ seen_in row c.args.vars.now) c.deref.ensures.value)

pub changes_seen-requires-clause-there : goal.changes_seen-requires-clause-there
changes_seen-requires-clause-there c =
    subst (λ (n : ℕ). AreVars n c.settings.result)
    (sym (ap (λ (xs : List ℤ). length xs) c.loop-k.invariant.row_is
    ∙ length-row_of c.args.start.now (take c.loop-k.k c.args.events.now)))
    (vars_there (length c.args.start.now) c.args.events.now c.loop-k.k c.settings.result c.requires c.settings.ensures)

pub changes_seen-requires-clause-seen : goal.changes_seen-requires-clause-seen
changes_seen-requires-clause-seen c =
    ap (λ (xs : List ℤ). drop c.loop-k.last xs) c.deref-in-loop-k.ensures.value ∙ c.loop-k.invariant.seen

pub loop-k-preserved : goal.loop-k-preserved
loop-k-preserved c =
    let values : c.deref-in-loop-k.result.now ≡ c.loop-k.values.items = c.deref-in-loop-k.ensures.value in
    elim c.if-changes_seen.branch [
      | then-changes_seen+in_ok-push_seen-2+in_ok-push w ↦
          so_far_more c.args.start.now c.args.events.now c.args.vars.now c.loop-k.numbers.items
          c.if-changes_seen.numbers.items c.loop-k.values.items c.loop-k.row.items c.changes_seen.new.row.items
          c.if-changes_seen.values.items c.loop-k.last c.if-changes_seen.last c.loop-k.k c.settings.result
          (omega (arith, c.loop-k-test.true, c.len-k-end.ensures)) (omega (arith, w.last-is, w.len-last.ensures))
          c.loop-k.invariant c.settings.ensures
          w.if-changes_seen.ensures.row
          (λ same.
          w.if-changes_seen.ensures.changes refl (ap (λ (xs : List ℤ). drop c.loop-k.last xs) values ∙ same))
          (ap (λ (list : Vec ℤ Global). list.items) w.values-is
          ∙ (w.in_ok-push_seen-2.ensures
          ∙ ap (λ (row : List ℤ). c.loop-k.values.items ++ seen_in row c.args.vars.now)
          w.deref-then-changes_seen.ensures.value))
          (ap (λ (list : Vec ℕ Global). list.items) w.numbers-is ∙ w.in_ok-push.ensures.items)
      | else-changes_seen w ↦
          subst (λ (values : Vec ℤ Global). IsKeptSoFar c.args.start.now c.args.events.now c.args.vars.now
          c.if-changes_seen.numbers.items values.items c.changes_seen.new.row.items c.if-changes_seen.last
          (c.loop-k.k + 1)) (sym w.values-is)
          (subst (λ (numbers : Vec ℕ Global). IsKeptSoFar c.args.start.now c.args.events.now c.args.vars.now
          numbers.items c.loop-k.values.items c.changes_seen.new.row.items c.if-changes_seen.last
          (c.loop-k.k + 1)) (sym w.numbers-is)
          (subst (λ (last : ℕ). IsKeptSoFar c.args.start.now c.args.events.now c.args.vars.now
          c.loop-k.numbers.items c.loop-k.values.items c.changes_seen.new.row.items last
          (c.loop-k.k + 1)) (sym w.last-is)
          (so_far_same c.args.start.now c.args.events.now c.args.vars.now c.loop-k.numbers.items
          c.loop-k.values.items c.loop-k.row.items c.changes_seen.new.row.items c.loop-k.last c.loop-k.k
          c.settings.result c.loop-k.invariant c.settings.ensures w.if-changes_seen.ensures.row
          (ap (λ (xs : List ℤ). drop c.loop-k.last xs) (sym values) ∙ w.if-changes_seen.ensures.same refl))))
    ]

pub returns : goal.returns
returns c =
    so_far_all c.args.start.now c.args.events.now c.args.vars.now c.loop-k.numbers.items c.loop-k.values.items
    c.loop-k.row.items c.loop-k.last c.loop-k.k (omega (arith, c.loop-k-test.false, c.len-k-end.ensures))
    c.loop-k.invariant
