-- The verdicts so far, of which there are no more than places.
use Rattle.std.proofs.Common.{◌≡◌, ◌≤◌, length, map, take}
use Rattle.judge_runs.specs.Runs as runs
use Rattle.judge_runs.specs.Views.{verdict_view}
use Rattle.judge_runs.proofs.tally.counts_of.Given as goal

abbrev pub invariant-loop-verdict : goal.invariant-loop-verdict
invariant-loop-verdict l = record {
  all : l.counts.all ≡ length (map verdict_view (take l.verdict-index l.verdicts));
  pass : l.counts.pass ≡ runs.count_of runs.Pass (map verdict_view (take l.verdict-index l.verdicts));
  fail : l.counts.fail ≡ runs.count_of runs.Fail (map verdict_view (take l.verdict-index l.verdicts));
  not_judged : l.counts.not_judged
      ≡ runs.count_of runs.NotJudged (map verdict_view (take l.verdict-index l.verdicts));
  few : l.counts.all ≤ l.verdict-index;
  few_pass : l.counts.pass ≤ l.verdict-index;
  few_fail : l.counts.fail ≤ l.verdict-index;
  few_not_judged : l.counts.not_judged ≤ l.verdict-index;
}
