-- The first line, without its LF, and the bytes after that.
use Rattle.std.proofs.Common.{◌<◌, length, arith}
use Rattle.std.proofs.lemmas.Bool.Decides.{nat_tests}
use Rattle.def_format.proofs.FeedPlaces.{no_feed, no_feed_below}
use Rattle.pd_frames.proofs.Feeds.{around_feed}
use Rattle.def_recordings.proofs.FirstLines.{first_line, one_line, shorter}
use Rattle.read_recordings.proofs.lines.first_line.Goals as goal

pub returns-in-Some : goal.returns-in-Some
returns-in-Some c =
    let found = c.in-Some.ensures in
    let parts = around_feed c.args.bytes.now c.in-Some.end found.0.high found.1 in (
      first_line _ _ _ parts (no_feed_below c.args.bytes.now c.in-Some.end (λ j below e.
          found.0.before j (omega arith) below e)),
      shorter _ _ _ parts,
    )

pub returns-in-None : goal.returns-in-None
returns-in-None c =
    let some : 0 < length c.args.bytes.now =
    grind (arith, nat_tests, c.if-is_empty.ensures) in (
      one_line c.args.bytes.now some (no_feed c.args.bytes.now (λ j below e.
          c.in-None.ensures j (omega arith) below e)),
      some,
    )
