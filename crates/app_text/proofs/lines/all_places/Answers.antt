-- The name stands at the place, or it doesn't.
use Rattle.std.proofs.Common.{◌<◌, ◌+◌, drop, length, ap, sym, ◌∙◌, arith}
use Rattle.app_text.specs.Lines.{begins_with, last_or, places_from, quoted}
use Rattle.app_text.proofs.Places.{place_found, place_passed}
use Rattle.app_text.proofs.lines.all_places.Goals as goal
use Rattle.app_text.proofs.lines.all_places.Goals.{then-is_quoted_first, else-is_quoted_first}

pub loop-place-preserved : goal.loop-place-preserved
loop-place-preserved c =
    let text = quoted c.args.name.now in
    let bytes = c.args.bytes.now in
    let place = c.loop-place.place in
    let below : place < length bytes = c.loop-place-test.true in
    let others = places_from (place + 1) text (drop (place + 1) bytes) in
    let kept = c.loop-place.invariant in
    let here = sym (ap (begins_with text) c.bytes_from.ensures) ∙ sym c.is_quoted_first.ensures in
    elim c.if-is_quoted_first.branch [
      | then-is_quoted_first w ↦
          let found = place_found text bytes place below (here ∙ w.if-is_quoted_first.true) in
          let one_more = ap length found in record {
            small = omega (arith, w.count-is, w.saturating_add-count.ensures, kept.small);
            count = omega (arith, w.count-is, w.saturating_add-count.ensures, kept.small, kept.count, one_more);
            last = ap (λ p. last_or p others) w.last-is ∙ sym (ap (last_or c.loop-place.last) found) ∙ kept.last;
          }
      | else-is_quoted_first w ↦
          let passed = place_passed text bytes place below (here ∙ w.if-is_quoted_first.false) in
          let same = ap length passed in record {
            small = omega (arith, w.count-is, kept.small);
            count = omega (arith, w.count-is, kept.count, same);
            last = ap (λ p. last_or p others) w.last-is ∙ sym (ap (last_or c.loop-place.last) passed) ∙ kept.last;
          }
    ]
