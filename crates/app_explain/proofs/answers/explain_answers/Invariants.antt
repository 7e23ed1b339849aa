-- Whether an answer so far is unknown, and nothing was said if none is.
use Rattle.std.proofs.Common.{◌≡◌, false, take}
use Rattle.std.specs.List.{list_any}
use Rattle.app_explain.specs.Answers.{is_unknown}
use Rattle.app_explain.proofs.answers.explain_answers.Given as goal

abbrev pub invariant-loop-answer : goal.invariant-loop-answer
invariant-loop-answer l = record {
  known : l.is_unknown ≡ list_any is_unknown (take l.answer-index l.answers);
  quiet : l.is_unknown ≡ false → l.out ≡ l.initial.out;
}
