-- The files that are left become fewer.
use Rattle.std.proofs.Common.{length}
use Rattle.judge_explore.proofs.sources.+source_in.Given as goal

abbrev pub decreases-source_in : goal.decreases-source_in
decreases-source_in l = length l.files.now
