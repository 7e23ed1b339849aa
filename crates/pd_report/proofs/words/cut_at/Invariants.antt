-- No byte so far is the one that is sought.
use Rattle.std.proofs.Common.{take}
use Rattle.pd_report.specs.Cuts.{Lacks}
use Rattle.pd_report.proofs.words.cut_at.Given as goal

abbrev pub invariant-loop-end : goal.invariant-loop-end
invariant-loop-end l = Lacks l.at (take l.end l.bytes)
