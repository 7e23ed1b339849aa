-- One range more.
use Rattle.std.proofs.Common.{◌≡◌, ◌<◌, ◌∷◌, [], ◌++◌, length, get_or, ap, arith}
use Rattle.std.proofs.lemmas.List.{length_push}
use Rattle.wide_gates.specs.Ranges.{HasRange}
use Rattle.wide_gates.specs.declared.range.Range.{Range}
use Rattle.wide_gates.proofs.Pushes.{each_push}
use Rattle.wide_gates.proofs.Sharing.{none_of_range}
use Rattle.wide_gates.proofs.boxes.box_after.Goals as goal

abbrev no_range : Range
no_range = record { low = 0; high = 0 }

pub start_of-start-requires-clause-none : goal.start_of-start-requires-clause-none
start_of-start-requires-clause-none c =
    none_of_range c.args.computation.now.events c.args.last c.loop-q.q (get_or c.args.ranges.now c.loop-q.q no_range)
    (c.requires.ranges.each c.loop-q.q no_range
    (let lt : c.loop-q.q < length c.args.computation.now.events =
    omega (arith, c.loop-q-test.true, c.requires.ranges.one_each) in lt))

pub loop-q-preserved : goal.loop-q-preserved
loop-q-preserved c =
    let old = c.loop-q.made.items in
    let many : length c.push.new.self.items ≡ length (old ++ c.range_at.result ∷ []) =
    ap length c.in_ok-push.ensures.items in
    record {
      many = omega (arith, many, length_push old c.range_at.result, c.loop-q.invariant.many);
      each = λ j d lt.
          each_push (λ i (r : Range). HasRange c.args.computation.now.events c.args.spot i r) old c.push.new.self.items
          c.range_at.result d c.loop-q.q c.loop-q.invariant.many c.in_ok-push.ensures.items
          (λ i less. c.loop-q.invariant.each i d less) c.range_at.ensures j lt;
    }
