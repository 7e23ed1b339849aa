-- The same event, or the same ranges.
use Rattle.std.proofs.Common.{ℕ, get_or, subst}
use Rattle.std.proofs.lemmas.List.{get_or_default}
use Rattle.wide_gates.specs.Ranges.{HasRange}
use Rattle.wide_gates.specs.declared.range.Range.{Range}
use Rattle.wide_gates.proofs.Sharing.{box_beside}
use Rattle.wide_gates.proofs.boxes.is_in_box.Goals as goal
use borrow.Author.Count.{below_more}

abbrev no_range : Range
no_range = record { low = 0; high = 0 }

pub returns-then-last-spot : goal.returns-then-last-spot
returns-then-last-spot c = λ _.
    box_beside c.args.computation.now.events c.args.last c.args.spot c.args.ranges.now
    (c.is_later.ensures c.if-not-is_later.false).0 c.if-last-spot.true c.requires.ranges

pub loop-q-preserved : goal.loop-q-preserved
loop-q-preserved c = λ j d lt.
    below_more
    (λ (i : ℕ). (e : Range) → HasRange c.args.computation.now.events c.args.spot i (get_or c.args.ranges.now i e))
    c.loop-q.q (λ i less e. c.loop-q.invariant i e less)
    (λ e. subst (HasRange c.args.computation.now.events c.args.spot c.loop-q.q)
    (get_or_default c.args.ranges.now c.loop-q.q no_range e c.loop-q-test.true)
    (c.keeps_range.ensures c.if-not-keeps_range.false)) j lt d
