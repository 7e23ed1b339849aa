-- The bits that are set, counted.
use Rattle.std.proofs.Common.{◌∙◌}
use Rattle.walk_keys.proofs.Truths.{ones_are_set}
use Rattle.walk_keys.proofs.bits.count.Goals as goal

pub returns : goal.returns
returns c = c.from.ensures ∙ ones_are_set 64 c.args.word c.ranges.word.fits
