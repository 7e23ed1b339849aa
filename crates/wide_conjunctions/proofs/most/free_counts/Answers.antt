-- The free events of one process more.
use Rattle.std.proofs.Common.{◌≡◌, ◌+◌, ℕ, List, [], ◌∷◌, get_or, length, length-append, sym, ap, ◌∙◌, subst, arith}
use Rattle.wide_conjunctions.specs.Firsts.{IsFreeCount}
use Rattle.wide_conjunctions.proofs.MostBefore.{each_more}
use Rattle.wide_conjunctions.proofs.most.free_counts.Goals as goal

pub loop-p-preserved : goal.loop-p-preserved
loop-p-preserved c =
    let events = c.args.computation.now.events in
    let firsts = c.args.firsts.now in
    let count : length c.loop-p.counts.items ≡ c.loop-p.p = c.loop-p.invariant.count in
    record {
      count =
          ap length c.in_ok-push.ensures.items
          ∙ (length-append c.loop-p.counts.items (c.free_count.result ∷ []) ∙ ap (λ (n : ℕ). n + 1) count);
      each = λ q lt.
          subst (λ (xs : List ℕ). IsFreeCount events firsts q (get_or xs q 0)) (sym c.in_ok-push.ensures.items)
          (each_more (λ i x. IsFreeCount events firsts i x) c.loop-p.counts.items c.free_count.result
          (λ i low. c.loop-p.invariant.each i (omega (arith, count)))
          (subst (λ (n : ℕ). IsFreeCount events firsts n c.free_count.result) (sym count) c.free_count.ensures) q
          (omega (arith, lt, count)));
    }

pub returns : goal.returns
returns c =
    let end : c.loop-p.p ≡ length c.args.computation.now.events =
    omega (arith, c.loop-p-test.false, c.loop-p.auto.p-end, c.processes-p-end.ensures) in
    record {
      one_each = c.loop-p.invariant.count ∙ end;
      each = λ q lt. c.loop-p.invariant.each q (omega (arith, end));
    }
