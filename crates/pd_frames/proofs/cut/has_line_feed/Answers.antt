-- Whether a line ends in these bytes.
use Rattle.std.proofs.Common.{◌∙◌}
use Rattle.pd_frames.proofs.Feeds.{found_feed}
use Rattle.pd_frames.proofs.cut.has_line_feed.Goals as goal

pub returns : goal.returns
returns c = c.is_some.ensures ∙ found_feed c.args.bytes.now c.memchr.result c.memchr.ensures
