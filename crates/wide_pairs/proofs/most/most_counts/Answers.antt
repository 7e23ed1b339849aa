-- The early events of one process more.
use Rattle.std.proofs.Common.{◌≡◌, ◌+◌, ℕ, [], ◌∷◌, length, length-append, sym, ap, ◌∙◌, subst, arith}
use Rattle.wide_pairs.specs.Mosts.{IsMostCount}
use Rattle.wide_pairs.proofs.Taken.{each_more}
use Rattle.wide_pairs.proofs.most.most_counts.Goals as goal

pub loop-r-preserved : goal.loop-r-preserved
loop-r-preserved c =
    let events = c.args.computation.now.events in
    let count : length c.loop-r.counts.items ≡ c.loop-r.r = c.loop-r.invariant.count in
    record {
      count =
          ap length c.in_ok-push.ensures.items
          ∙ (length-append c.loop-r.counts.items (c.most_count.result ∷ []) ∙ ap (λ (n : ℕ). n + 1) count);
      each = λ k lt.
          each_more (λ r n. IsMostCount events c.args.p c.args.q c.args.i c.args.j r n) c.loop-r.counts.items
          c.push.new.self.items c.most_count.result c.in_ok-push.ensures.items
          (λ r low. c.loop-r.invariant.each r (omega (arith, count)))
          (subst (λ (n : ℕ). IsMostCount events c.args.p c.args.q c.args.i c.args.j n c.most_count.result) (sym count)
          c.most_count.ensures) k (omega (arith, lt, count));
    }

pub returns : goal.returns
returns c =
    let end : c.loop-r.r ≡ length c.args.computation.now.events =
    omega (arith, c.loop-r-test.false, c.loop-r.auto.r-end, c.processes-r-end.ensures) in
    record {
      one_each = c.loop-r.invariant.count ∙ end;
      each = λ k lt. c.loop-r.invariant.each k (omega (arith, lt, end));
    }
