-- What the loop of `answers` keeps.
use Rattle.std.proofs.Common.{◌≡◌, ◌≤◌, ◌++◌, length, map}
use Rattle.std.specs.Prelude.{flat_map}
use Rattle.std.specs.List.{AllByRecursion}
use Rattle.def_format.specs.Limits.{predicate_limit}
use Rattle.def_format.specs.Reports.{answer_lines, text_of_lines, AnswerIsLawful}
use Rattle.pd_report.specs.Views.{answer_view}
use Rattle.pd_report.proofs.reader.answers.Given as goal

abbrev pub invariant-loop-rest : goal.invariant-loop-rest
invariant-loop-rest l = record {
  few : length l.answers.items ≤ predicate_limit;
  lawful : AllByRecursion AnswerIsLawful (map answer_view l.answers.items);
  whole : l.bytes ≡ text_of_lines (flat_map answer_lines (map answer_view l.answers.items)) ++ l.rest;
}

abbrev pub decreases-loop-rest : goal.decreases-loop-rest
decreases-loop-rest l = length l.rest
