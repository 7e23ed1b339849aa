-- A line ends after its line feed, or with the bytes.
use Rattle.app_ends.proofs.PartPlaces.{length_with_feed, length_without_feed}
use Rattle.app_ends.proofs.seen_parts.line_length.Goals as goal

pub returns-in-Some : goal.returns-in-Some
returns-in-Some c =
    length_with_feed c.args.bytes.now c.cut_line.result.0.now c.in-Some.after.now
    (rw c.in-Some.is at c.cut_line.ensures)

pub returns-in-None : goal.returns-in-None
returns-in-None c =
    let cut = rw c.in-None.is at c.cut_line.ensures in
    length_without_feed c.args.bytes.now c.requires cut.1
