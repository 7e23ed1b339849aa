-- One more process.
use Rattle.std.proofs.Common.{◌+◌, ◌++◌, ◌∷◌, [], List, ℕ, ℤ, ap, sym, subst, ◌∙◌, arith}
use Rattle.std.specs.Prelude.{Vec}
use Rattle.std.specs.Global.{Global}
use Rattle.judge_orders.specs.KeptRuns.{HaveKept, values_view}
use Rattle.judge_orders.specs.Lists.{lists_view}
use Rattle.pd_clock.specs.Computations.{initial_view, recorded_view}
use Rattle.judge_orders.proofs.KeptParts.{have_more, process_at, vars_at}
use Rattle.judge_orders.proofs.Places.{list_at, longer}
use Rattle.judge_orders.proofs.long_order.traces_kept.Goals as goal

pub process_kept-requires : goal.process_kept-requires
process_kept-requires c =
    vars_at c.args.initial.now c.args.traces.now c.loop-p.p _ _ c.deref.result.now c.requires.rows c.loop-p-test.true
    (c.deref.ensures.value ∙ ap (λ (row : Vec ℤ Global). row.items) c.index-initial-p.is)

pub loop-p-preserved : goal.loop-p-preserved
loop-p-preserved c =
    let r = recorded_view (initial_view c.args.initial.now) c.args.traces.now in
    let named = lists_view c.args.named.now in
    record {
      many = longer c.loop-p.numbers.items c.push.new.self.items c.in_ok-kept.kept.numbers c.loop-p.p
          c.in_ok-push.ensures.items c.loop-p.invariant.many;
      many_values = longer c.loop-p.values.items c.push-in-loop-p.new.self.items c.in_ok-kept.kept.values c.loop-p.p
          c.in_ok-push-2.ensures.items c.loop-p.invariant.many_values;
      kept = subst (λ (numbers : List (Vec ℕ Global)). HaveKept r named (lists_view numbers)
          (values_view c.push-in-loop-p.new.self.items) (c.loop-p.p + 1))
          (sym {A = List (Vec ℕ Global)} c.in_ok-push.ensures.items)
          (subst (λ (values : List (Vec ℤ Global)). HaveKept r named
          (lists_view (c.loop-p.numbers.items ++ c.in_ok-kept.kept.numbers ∷ [])) (values_view values)
          (c.loop-p.p + 1)) (sym {A = List (Vec ℤ Global)} c.in_ok-push-2.ensures.items)
          (have_more r named c.loop-p.numbers.items c.loop-p.values.items c.in_ok-kept.kept.numbers
          c.in_ok-kept.kept.values c.deref.result.now _ c.deref-in-loop-p.result.now c.loop-p.p c.loop-p.invariant.many
          c.loop-p.invariant.many_values c.loop-p.invariant.kept
          (process_at c.args.initial.now c.args.traces.now c.loop-p.p c.index-initial-p.result _ c.deref.result.now
          c.requires.rows c.loop-p-test.true
          (c.deref.ensures.value ∙ ap (λ (row : Vec ℤ Global). row.items) c.index-initial-p.is))
          (list_at c.args.named.now c.loop-p.p c.index-named-p.result
          (omega (arith, c.requires.one_each, c.loop-p-test.true))
          ∙ (ap (λ (list : Vec ℕ Global). list.items) (sym c.index-named-p.is)
          ∙ sym c.deref-in-loop-p.ensures.value))
          c.in_ok-kept.ensures));
    }
