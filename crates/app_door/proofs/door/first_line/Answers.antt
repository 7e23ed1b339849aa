-- Bytes with a line feed are cut at the first one.
use Rattle.std.specs.Option.{option_copied}
use Rattle.app_door.proofs.TokenLines.{cut_of_feed}
use Rattle.app_door.proofs.door.first_line.Goals as goal

pub returns : goal.returns
returns c =
    cut_of_feed c.args.bytes.now c.cut_line.result.0.now (option_copied c.cut_line.result.1) c.cut_line.ensures
    c.requires
