-- What the loop of `all_places` keeps.
use Rattle.std.proofs.Common.{◌≡◌, ◌++◌, length, map}
use Rattle.std.specs.List.{AllByRecursion}
use Rattle.def_format.specs.Reports.{PlaceIsLawful, place_text}
use Rattle.pd_report.specs.Remaining.{words_left}
use Rattle.pd_report.specs.Views.{named_places_view}
use Rattle.pd_report.proofs.listed.all_places.Given as goal

abbrev pub invariant-loop-word : goal.invariant-loop-word
invariant-loop-word l = record {
  lawful : AllByRecursion PlaceIsLawful (named_places_view l.places.items);
  read : words_left l.words ≡ map place_text (named_places_view l.places.items) ++ words_left l.left;
}

abbrev pub decreases-loop-word : goal.decreases-loop-word
decreases-loop-word l = length (words_left l.left)
