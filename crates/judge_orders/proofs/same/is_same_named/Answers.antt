-- Processes that differ.
use Rattle.std.proofs.Common.{◌≡◌, ◌<◌, ℕ, length, sym, ◌∙◌, ap, arith, true, false}
use Rattle.std.specs.Prelude.{Vec}
use Rattle.std.specs.Global.{Global}
use Rattle.judge_orders.proofs.Sameness.{same_at}
use Rattle.judge_orders.proofs.same.is_same_named.Goals as goal

pub returns-then-not-is_same_vars : goal.returns-then-not-is_same_vars
returns-then-not-is_same_vars c = (
  λ (no' : false ≡ true). absurd (cc),
  λ same.
      let within : c.loop-i.i < length c.args.second.now =
      omega (arith, c.loop-i-test.true, c.if-first-second.false) in
      c.if-not-is_same_vars.ensures.1
      ((c.deref.ensures.value ∙ ap (λ (list : Vec ℕ Global). list.items) c.index-first-i.is)
      ∙ (same_at (λ (list : Vec ℕ Global). list.items) c.args.first.now c.args.second.now c.loop-i.i
      c.index-first-i.result c.index-second-i.result same c.loop-i-test.true within
      ∙ sym (c.deref-in-loop-i.ensures.value ∙ ap (λ (list : Vec ℕ Global). list.items) c.index-second-i.is))),
)
