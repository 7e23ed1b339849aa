-- What the loop of `all_numbers` keeps.
use Rattle.std.proofs.Common.{◌≡◌, ◌++◌, length, map}
use Rattle.std.specs.Prelude.{decimal}
use Rattle.std.specs.List.{AllByRecursion}
use Rattle.def_format.specs.Reports.{Fits}
use Rattle.pd_report.specs.Remaining.{words_left}
use Rattle.pd_report.proofs.listed.all_numbers.Given as goal

abbrev pub invariant-loop-word : goal.invariant-loop-word
invariant-loop-word l = record {
  lawful : AllByRecursion Fits l.numbers.items;
  read : words_left l.words ≡ map decimal l.numbers.items ++ words_left l.left;
}

abbrev pub decreases-loop-word : goal.decreases-loop-word
decreases-loop-word l = length (words_left l.left)
