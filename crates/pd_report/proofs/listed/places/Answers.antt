-- Events, at least one.
use Rattle.std.proofs.Common.{◌<◌, map, length}
use Rattle.std.specs.List.{AllByRecursion}
use Rattle.std.proofs.lemmas.List.{length-map}
use Rattle.std.proofs.lemmas.Result.{IfOk-weaker}
use Rattle.def_format.specs.Reports.{PlaceIsLawful, place_text, with_commas}
use Rattle.def_format.proofs.OneReport.{places_lack}
use Rattle.pd_report.specs.Remaining.{words_left}
use Rattle.pd_report.specs.Views.{named_places_view}
use Rattle.pd_report.proofs.Lists.{found_listed, listed_none, read_there, texts_listed}
use Rattle.pd_report.proofs.listed.places.Goals as goal

pub returns-then-not-are_places : goal.returns-then-not-are_places
returns-then-not-are_places c =
    listed_none (map place_text) (AllByRecursion PlaceIsLawful) (λ ps. length-map ps place_text) places_lack
    c.args.word.now (words_left c.new-words.result) c.new-words.ensures
    (λ vs h e. c.if-not-are_places.ensures (vs, h, e))

pub returns : goal.returns
returns c =
    let word = c.args.word.now in
    let words = words_left c.new-words.result in
    read_there (λ found. named_places_view found.items) (λ ps. with_commas (map place_text ps))
    (λ ps. (0 < length ps) × AllByRecursion PlaceIsLawful ps) word c.all_places.result
    (IfOk-weaker c.all_places.result _ _ (found_listed (λ found. (named_places_view found.items)) (map place_text)
    (AllByRecursion PlaceIsLawful) (λ ps. length-map ps place_text) places_lack word words c.new-words.ensures)
    c.all_places.ensures)
    (texts_listed place_text PlaceIsLawful word words c.new-words.ensures c.if-not-are_places.ensures)
