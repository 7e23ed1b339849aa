-- The next event is kept, or it leaves the variables as they were.
use Rattle.std.proofs.Common.{◌+◌, List, ℕ, refl, sym, ap, ◌∙◌, subst, arith}
use Rattle.std.specs.Prelude.{Vec}
use Rattle.std.specs.Global.{Global}
use Rattle.judge_orders.specs.KeptEvents.{AreKeptUpTo}
use Rattle.judge_orders.proofs.Keeping.{kept_more, kept_same}
use Rattle.judge_orders.proofs.kept.kept_events.Goals as goal
use Rattle.judge_orders.proofs.kept.kept_events.Goals.{then-is_kept+in_ok-push, else-is_kept}

pub loop-n-preserved : goal.loop-n-preserved
loop-n-preserved c =
    let r = c.args.computation.now in
    elim c.if-is_kept.branch [
      | then-is_kept+in_ok-push w ↦
          subst (λ (numbers : List ℕ). AreKeptUpTo r c.args.p c.args.vars.now numbers (c.loop-n.n + 1))
          (sym w.in_ok-push.ensures.items ∙ ap (λ (numbers : Vec ℕ Global). numbers.items) (sym w.numbers-is))
          (kept_more r c.args.p c.args.vars.now c.loop-n.numbers.items c.loop-n.n c.loop-n.invariant (omega arith)
          (w.if-is_kept.ensures.changes refl))
      | else-is_kept w ↦
          subst (λ (numbers : Vec ℕ Global).
          AreKeptUpTo r c.args.p c.args.vars.now numbers.items (c.loop-n.n + 1)) (sym w.numbers-is)
          (kept_same r c.args.p c.args.vars.now c.loop-n.numbers.items c.loop-n.n c.loop-n.invariant
          (w.if-is_kept.ensures.same refl))
    ]
