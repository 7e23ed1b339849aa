-- What the lines so far say, and then those that are left.
use Rattle.std.proofs.Common.{◌≡◌, ◌≤◌, ◌+◌, length}
use Rattle.def_format.specs.Lines.{all_lines}
use Rattle.judge_infer.specs.Inferred.{after_lines, fresh}
use Rattle.judge_infer.specs.Views.{stage_view}
use Rattle.judge_infer.proofs.process.read_lines.Given as goal

abbrev pub invariant-lines : goal.invariant-lines
invariant-lines l = record {
  same : after_lines fresh 1 (all_lines l.bytes) ≡ after_lines (stage_view l.stage) l.number (all_lines l.rest);
  few : l.number + length l.rest ≤ length l.bytes + 1;
}

abbrev pub decreases-lines : goal.decreases-lines
decreases-lines l = length l.rest
