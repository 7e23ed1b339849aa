-- A stream within the limits of a session is read as one of a session is.
use Rattle.def_recordings.proofs.SmallStreams.{within_limits_lem}
use Rattle.def_recordings.proofs.within_limits.Goals as goal

pub returns : goal.returns
returns c = within_limits_lem
