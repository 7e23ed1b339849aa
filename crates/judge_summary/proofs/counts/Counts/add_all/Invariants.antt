-- What is left to be counted, and that nothing is counted too often so far.
use Rattle.std.proofs.Common.{◌≡◌, true, drop}
use Rattle.judge_summary.specs.Counts.{add_all, fits}
use Rattle.judge_summary.specs.Views.{numbered_view}
use Rattle.judge_summary.proofs.counts.Counts.add_all.Given as goal

abbrev pub invariant-loop-text : goal.invariant-loop-text
invariant-loop-text l = record {
  same : add_all (numbered_view (drop l.text-index l.texts)) l.self ≡ add_all (numbered_view l.texts) l.fn.self;
  fit : fits l.self ≡ true;
}
