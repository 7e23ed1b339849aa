-- An event.
use Rattle.def_format.specs.Reports.{PlaceIsLawful, place_text}
use Rattle.pd_report.specs.Views.{named_place_view, place_view}
use Rattle.pd_report.proofs.Lists.{refused_there}
use Rattle.pd_report.proofs.listed.place.Goals as goal

pub returns-in_err-word_text : goal.returns-in_err-word_text
returns-in_err-word_text c =
    let found = c.in-Some.ensures in
    refused_there named_place_view place_text PlaceIsLawful c.args.word.now c.from_residual.result
    c.from_residual.ensures.0 (place_view (c.in-Some.name, c.in-Some.number), found.0, found.1)
