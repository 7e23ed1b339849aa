-- What the loop of `all_names` keeps.
use Rattle.std.proofs.Common.{◌≡◌, ◌++◌, length, map}
use Rattle.std.specs.List.{AllByRecursion}
use Rattle.def_format.specs.Reports.{IsName}
use Rattle.pd_report.specs.Remaining.{words_left}
use Rattle.pd_report.proofs.listed.all_names.Given as goal

abbrev pub invariant-loop-word : goal.invariant-loop-word
invariant-loop-word l = record {
  lawful : AllByRecursion IsName l.path;
  read : words_left l.words ≡ map (λ name. name) l.path ++ words_left l.left;
}

abbrev pub decreases-loop-word : goal.decreases-loop-word
decreases-loop-word l = length (words_left l.left)
