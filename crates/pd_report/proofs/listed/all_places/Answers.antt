-- Events, as the words.
use Rattle.std.proofs.Common.{◌∙◌, ◌++◌, map, sym, ap}
use Rattle.def_format.specs.Reports.{PlaceIsLawful, place_text}
use Rattle.pd_report.specs.Remaining.{words_left}
use Rattle.pd_report.specs.Views.{named_places_view}
use Rattle.pd_report.proofs.Lists.{one_is_none}
use Rattle.pd_report.proofs.listed.all_places.Goals as goal

pub returns-in_default-2 : goal.returns-in_default-2
returns-in_default-2 c = λ v h e.
    let read = map place_text (named_places_view c.loop-word.places.items) in
    one_is_none place_text PlaceIsLawful read c.in-Some.word.now (words_left c.in-Some.rest)
    (rw c.in_default-2.is at c.in_ok-place.ensures) v h
    (ap (λ left. read ++ left) (sym c.in-Some.ensures) ∙ sym c.loop-word.invariant.read ∙ e)
