-- The first line that an LF ends, and the bytes after that LF, if there is one.
use Rattle.std.proofs.Common.{arith}
use Rattle.def_format.proofs.FeedPlaces.{no_feed, no_feed_below}
use Rattle.pd_frames.proofs.Feeds.{around_feed}
use Rattle.judge_infer.proofs.LineSteps.{first_line, one_line, shorter}
use Rattle.judge_infer.proofs.lines.first_line.Goals as goal

pub returns-in_err-end : goal.returns-in_err-end
returns-in_err-end c =
    rw c.from_residual.ensures (one_line c.args.bytes.now (no_feed c.args.bytes.now (λ j below e.
    c.in_err-end.ensures j (omega arith) below e)))

pub returns : goal.returns
returns c =
    let found = c.in_ok-end.ensures in
    let parts = around_feed c.args.bytes.now c.in_ok-end.end found.0.high found.1 in (
      first_line _ _ _ parts (no_feed_below c.args.bytes.now c.in_ok-end.end (λ j below e.
          found.0.before j (omega arith) below e)),
      shorter _ _ _ parts,
    )
