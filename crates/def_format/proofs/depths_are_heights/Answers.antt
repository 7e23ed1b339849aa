-- The depth after tokens is the height of a stack, which goes on from what it was.
use Rattle.def_format.proofs.Depths.{depth_is_height, all_opened-append}
use Rattle.def_format.proofs.depths_are_heights.Goals as goal

pub returns-clause-exact : goal.returns-clause-exact
returns-clause-exact c = depth_is_height

pub returns-clause-go_on : goal.returns-clause-go_on
returns-clause-go_on c = all_opened-append
