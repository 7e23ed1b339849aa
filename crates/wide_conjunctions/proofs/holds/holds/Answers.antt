-- What is known of one process more.
use Rattle.std.proofs.Common.{◌≡◌, ◌+◌, ℕ, List, [], ◌∷◌, get_or, length, length-append, sym, ap, ◌∙◌, subst, arith}
use Rattle.wide_conjunctions.specs.declared.holds.Hold.{Hold}
use Rattle.wide_conjunctions.specs.Holds.{IsHold}
use Rattle.wide_conjunctions.proofs.RowSteps.{each_more}
use Rattle.wide_conjunctions.proofs.holds.holds.Goals as goal

pub loop-p-preserved : goal.loop-p-preserved
loop-p-preserved c =
    let events = c.args.computation.now.events in
    let count : length c.loop-p.holds.items ≡ c.loop-p.p = c.loop-p.invariant.count in
    let last : IsHold events c.args.cut.now c.loop-p.p c.hold_of.result =
    subst (λ (cut : List ℕ). IsHold events cut c.loop-p.p c.hold_of.result) c.counts.ensures c.hold_of.ensures.hold in
    record {
      count =
          ap length c.in_ok-push.ensures.items
          ∙ (length-append c.loop-p.holds.items (c.hold_of.result ∷ []) ∙ ap (λ (n : ℕ). n + 1) count);
      each = λ q d lt.
          subst (λ (xs : List Hold). IsHold events c.args.cut.now q (get_or xs q d)) (sym c.in_ok-push.ensures.items)
          (each_more (λ i (x : Hold). IsHold events c.args.cut.now i x) c.loop-p.holds.items c.hold_of.result d
          (λ i low. c.loop-p.invariant.each i d (omega (arith, low, count)))
          (subst (λ (n : ℕ). IsHold events c.args.cut.now n c.hold_of.result) (sym count) last) q
          (omega (arith, lt, count)));
    }

pub returns : goal.returns
returns c =
    let end : c.loop-p.p ≡ length c.args.computation.now.events =
    omega (arith, c.loop-p-test.false, c.loop-p.auto.p-end, c.processes-p-end.ensures) in
    record {
      one_each = c.loop-p.invariant.count ∙ end;
      each = λ q d lt. c.loop-p.invariant.each q d (omega (arith, lt, end));
    }
