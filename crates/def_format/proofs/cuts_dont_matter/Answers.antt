-- However the bytes are cut into pieces, the lines are the same.
use Rattle.def_format.proofs.LineFacts.{cuts_dont_matter_lem}
use Rattle.def_format.proofs.cuts_dont_matter.Goals as goal

pub returns : goal.returns
returns c = cuts_dont_matter_lem
