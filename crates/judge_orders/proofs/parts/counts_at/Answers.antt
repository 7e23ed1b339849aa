-- One more row, or none is left.
use Rattle.std.proofs.Common.{◌<◌, ℕ, List, length, sym, ◌∙◌, subst}
use Rattle.std.specs.Slice.Iter.{chunks_exact_rest}
use Rattle.judge_orders.proofs.PartRows.{AreCountsSoFar, counts_all, counts_more}
use Rattle.judge_orders.proofs.parts.counts_at.Goals as goal

pub loop-row-preserved : goal.loop-row-preserved
loop-row-preserved c = record {
  wide = c.in-Some.ensures.steps.0 ∙ c.loop-row.invariant.wide;
  counts = subst (λ (counts : List ℕ).
      AreCountsSoFar c.args.width c.args.places.now c.args.known.now counts (chunks_exact_rest c.next.new.self))
      (sym c.in_ok-push_counts.ensures)
      (counts_more c.args.width c.args.places.now c.args.known.now c.loop-row.counts.items
      (chunks_exact_rest c.loop-row.row-iterator) c.in-Some.row.now (chunks_exact_rest c.next.new.self)
      c.requires.some c.loop-row.invariant.counts c.in-Some.ensures.steps.1.0
      (c.in-Some.ensures.steps.1.1 ∙ c.loop-row.invariant.wide));
}

pub returns : goal.returns
returns c =
    let short : length (chunks_exact_rest c.loop-row.row-iterator) < c.args.width =
    subst (λ (n : ℕ). length (chunks_exact_rest c.loop-row.row-iterator) < n) c.loop-row.invariant.wide
    c.in-None.ensures.steps.1.0 in
    counts_all c.args.width c.args.places.now c.args.known.now c.loop-row.counts.items
    (chunks_exact_rest c.loop-row.row-iterator) short c.loop-row.invariant.counts
