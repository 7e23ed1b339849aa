-- A byte that is an LF ends its line, and each other one lengthens it.
use Rattle.std.proofs.Common.{arith, ◌<◌, length}
use Rattle.app_text.proofs.CutLines.{feed_line, other_line, line_number-small}
use Rattle.app_text.proofs.lines.line_of_place.Goals as goal
use Rattle.app_text.proofs.lines.line_of_place.Goals.{then-byte-eq10, else-byte-eq10}

pub loop-index-preserved : goal.loop-index-preserved
loop-index-preserved c =
    let before = c.bytes_before-before.result.now in
    let below : c.loop-index.index < length before = c.loop-index-test.true in
    let small = line_number-small before c.loop-index.index in
    elim c.if-byte-eq10.branch [
      | then-byte-eq10 w ↦
          let step = feed_line before c.loop-index.index below w.if-byte-eq10.true in record {
            line = omega (arith, step, w.line-is, w.saturating_add-line.ensures);
            start = omega (arith, step, w.start-is, w.saturating_add-start.ensures);
          }
      | else-byte-eq10 w ↦
          let step = other_line before c.loop-index.index below w.if-byte-eq10.false in record {
            line = omega (arith, step, w.line-is);
            start = omega (arith, step, w.start-is);
          }
    ]
