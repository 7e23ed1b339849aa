-- The answers so far.
use Rattle.std.proofs.Common.{map, take}
use Rattle.pd_report.specs.Views.{answer_view}
use Rattle.out_json.specs.Utf8Names.{PathsAreUtf8}
use Rattle.out_json.proofs.texts.answers_are_utf8.Given as goal

abbrev pub invariant-loop-answer : goal.invariant-loop-answer
invariant-loop-answer l = PathsAreUtf8 (map answer_view (take l.answer-index l.answers))
