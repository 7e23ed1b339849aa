-- What the loop of `are_places` keeps.
use Rattle.std.proofs.Common.{length}
use Rattle.pd_report.specs.Remaining.{words_left}
use Rattle.pd_report.proofs.Lists.{AreTexts}
use Rattle.def_format.specs.Reports.{PlaceIsLawful, place_text}
use Rattle.pd_report.proofs.listed.are_places.Given as goal

abbrev pub invariant-loop-word : goal.invariant-loop-word
invariant-loop-word l = AreTexts place_text PlaceIsLawful (words_left l.words) (words_left l.left)

abbrev pub decreases-loop-word : goal.decreases-loop-word
decreases-loop-word l = length (words_left l.left)
