-- Whether the words are events.
use Rattle.std.proofs.Common.{◌∙◌, ◌++◌, ◌∷◌, [], map, sym, ap}
use Rattle.def_format.specs.Reports.{PlaceIsLawful, place_text}
use Rattle.pd_report.specs.Remaining.{words_left}
use Rattle.pd_report.specs.Views.{place_view}
use Rattle.pd_report.proofs.Lists.{all_push, one_is_none, read_more}
use Rattle.pd_report.proofs.listed.are_places.Goals as goal

pub returns-in_default-place_words : goal.returns-in_default-place_words
returns-in_default-place_words c = λ texts.
    let so_far = c.loop-word.invariant in
    let read = map place_text so_far.0 in
    one_is_none place_text PlaceIsLawful read c.in-Some.word.now (words_left c.in-Some.rest)
    c.in_default-place_words.ensures texts.0 texts.1
    (ap (λ left. read ++ left) (sym c.in-Some.ensures) ∙ sym so_far.2 ∙ texts.2)

pub loop-word-preserved : goal.loop-word-preserved
loop-word-preserved c =
    let so_far = c.loop-word.invariant in
    let place = place_view c.in-Some-place_words._place in
    let found = c.in-Some-place_words.ensures in (
      so_far.0 ++ place ∷ [],
      all_push PlaceIsLawful so_far.0 place so_far.1 found.0,
      read_more place_text (words_left c.args.words) (words_left c.loop-word.left) (words_left c.in-Some.rest)
          c.in-Some.word.now so_far.0 place so_far.2 c.in-Some.ensures found.1,
    )
