-- One more process.
use Rattle.std.proofs.Common.{◌+◌, List, ℕ, [], sym, ap, ◌∙◌, subst}
use Rattle.std.specs.Prelude.{Vec, slice_index_or}
use Rattle.std.specs.Global.{Global}
use Rattle.def_orders.specs.Orders.{AreKept}
use Rattle.judge_orders.specs.KeptEvents.{AllKept}
use Rattle.judge_orders.specs.Lists.{lists_view}
use Rattle.judge_orders.proofs.Places.{all_push, list_at, longer}
use Rattle.judge_orders.proofs.kept.all_kept_events.Goals as goal

pub loop-p-preserved : goal.loop-p-preserved
loop-p-preserved c =
    let r = c.args.computation.now in
    let named = lists_view c.args.named.now in
    record {
      many = longer c.loop-p.numbers.items c.push.new.self.items c.in_ok-kept_events.field-0 c.loop-p.p
          c.in_ok-push.ensures.items c.loop-p.invariant.many;
      kept = subst (λ (numbers : List (Vec ℕ Global)). AllKept r named (lists_view numbers) (c.loop-p.p + 1))
          (sym {A = List (Vec ℕ Global)} c.in_ok-push.ensures.items)
          (all_push (λ p numbers. AreKept r p (slice_index_or named p []) numbers)
          (λ (list : Vec ℕ Global). list.items) c.loop-p.numbers.items c.in_ok-kept_events.field-0 c.loop-p.p []
          c.loop-p.invariant.many c.loop-p.invariant.kept
          (subst (λ (vars : List ℕ). AreKept r c.loop-p.p vars c.in_ok-kept_events.field-0.items)
          (c.deref.ensures.value ∙ (ap (λ (list : Vec ℕ Global). list.items) c.index-named-p.is
          ∙ sym (list_at c.args.named.now c.loop-p.p _ c.loop-p-test.true))) c.in_ok-kept_events.ensures));
    }
