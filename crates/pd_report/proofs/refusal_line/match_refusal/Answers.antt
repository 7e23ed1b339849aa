-- A send or a receive that matches none.
use Rattle.std.proofs.Common.{◌≡◌, ◌∙◌, ◌∷◌, [], refl, sym}
use Rattle.def_format.specs.RefusalKinds.{MatchKind}
use Rattle.def_format.specs.Reports.{place_text, refusal_words, Match}
use Rattle.def_format.proofs.OneReport.{match_word}
use Rattle.pd_report.specs.Reading.{IsOfKind}
use Rattle.pd_report.specs.Remaining.{words_left}
use Rattle.pd_report.specs.Views.{place_view, refusal_view}
use Rattle.pd_report.proofs.Lists.{refused_there}
use Rattle.pd_report.proofs.refusal_line.match_refusal.Goals as goal

pub word_text-requires : goal.word_text-requires
word_text-requires c = match_word c.in-Some.word.now (sym c.is_match_word.ensures ∙ c.if-not-is_match_word.false)

pub returns-in_err-word : goal.returns-in_err-word
returns-in_err-word c =
    let words = words_left c.args.words in
    let word = c.in-Some.word.now in
    let place = place_view (c.in-Some-place_words.name, c.in-Some-place_words.number) in
    let is_word = sym c.is_match_word.ensures ∙ c.if-not-is_match_word.false in
    let same : words ≡ word ∷ place_text place ∷ [] =
    cc (c.in-Some.ensures, c.in-Some-single.ensures, c.in-Some-place_words.ensures.1) in
    refused_there refusal_view refusal_words (IsOfKind MatchKind) words c.from_residual.result c.from_residual.ensures.0
    (Match word place, ((is_word, c.in-Some-place_words.ensures.0), refl), same)

pub returns-in_err-name : goal.returns-in_err-name
returns-in_err-name c =
    let words = words_left c.args.words in
    let word = c.in-Some.word.now in
    let place = place_view (c.in-Some-place_words.name, c.in-Some-place_words.number) in
    let is_word = sym c.is_match_word.ensures ∙ c.if-not-is_match_word.false in
    let same : words ≡ word ∷ place_text place ∷ [] =
    cc (c.in-Some.ensures, c.in-Some-single.ensures, c.in-Some-place_words.ensures.1) in
    refused_there refusal_view refusal_words (IsOfKind MatchKind) words c.from_residual-in_err-name.result
    c.from_residual-in_err-name.ensures.0
    (Match word place, ((is_word, c.in-Some-place_words.ensures.0), refl), same)
