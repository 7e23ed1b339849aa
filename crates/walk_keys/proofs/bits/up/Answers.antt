-- The bits that are moved up.
use Rattle.std.proofs.Common.{◌+◌}
use Rattle.walk_keys.proofs.Truths.{is_unset, same_bit, up_below, up_moved}
use Rattle.walk_keys.proofs.bits.up.Goals as goal

pub returns-clause-below : goal.returns-clause-below
returns-clause-below c j below = is_unset _ j (up_below c.args.word c.args.by j c.requires below)

pub returns-clause-moved : goal.returns-clause-moved
returns-clause-moved c j small = same_bit _ c.args.word (j + c.args.by) j (up_moved c.args.word c.args.by j small)
