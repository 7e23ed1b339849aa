-- The lines so far.
use Rattle.std.proofs.Common.{◌≡◌, ◌++◌, take}
use Rattle.judge_check.specs.Pieces.{verdicts_text}
use Rattle.judge_check.proofs.finding_text.push_answers.Given as goal

abbrev pub invariant-loop-checked : goal.invariant-loop-checked
invariant-loop-checked l =
    l.out.items ≡ l.initial.out.items ++ verdicts_text (take l.checked-index l.answers)
