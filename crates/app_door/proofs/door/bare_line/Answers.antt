-- The first line of a line is that line.
use Rattle.std.proofs.Common.{◌∙◌}
use Rattle.app_door.proofs.TokenLines.{bare_of_line}
use Rattle.app_door.proofs.door.bare_line.Goals as goal

pub returns : goal.returns
returns c = c.line_at.ensures ∙ bare_of_line c.args.line.now c.requires
