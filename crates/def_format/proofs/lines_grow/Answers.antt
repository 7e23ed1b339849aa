-- What bytes without an LF, and an LF, add to sound bytes.
use Rattle.def_format.proofs.PartFacts.{part_goes_on, feed_ends_line, part_is_faulty, feed_is_faulty}
use Rattle.def_format.proofs.lines_grow.Goals as goal

pub returns : goal.returns
returns c = record {
  part = part_goes_on;
  feed = feed_ends_line;
  faulty_part = part_is_faulty;
  faulty_feed =
      feed_is_faulty;
}
