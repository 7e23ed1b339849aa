-- One range more.
use Rattle.std.proofs.Common.{◌≡◌, ◌∷◌, [], ◌++◌, length, ap, arith}
use Rattle.std.proofs.lemmas.List.{length_push}
use Rattle.wide_gates.specs.Ranges.{HasRange}
use Rattle.wide_gates.specs.declared.range.Range.{Range}
use Rattle.wide_gates.proofs.Pushes.{each_push}
use Rattle.wide_gates.proofs.boxes.box_of.Goals as goal

pub loop-q-preserved : goal.loop-q-preserved
loop-q-preserved c =
    let old = c.loop-q.made.items in
    let many : length c.push.new.self.items ≡ length (old ++ c.range_at.result ∷ []) =
    ap length c.in_ok-push.ensures.items in
    record {
      many = omega (arith, many, length_push old c.range_at.result, c.loop-q.invariant.many);
      each = λ j d lt.
          each_push (λ i (r : Range). HasRange c.args.computation.now.events c.args.spot i r) old c.push.new.self.items
          c.range_at.result d c.loop-q.q c.loop-q.invariant.many c.in_ok-push.ensures.items
          (λ i less. c.loop-q.invariant.each i d less) c.range_at.ensures j lt;
    }
