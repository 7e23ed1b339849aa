-- A stream's number, the number of its line at fault, and the word of its fault.
use Rattle.std.proofs.Common.{◌≡◌, ℕ, List, ◌∙◌, ◌∷◌, [], sym}
use Rattle.def_format.proofs.OneReport.{stream_word}
use Rattle.pd_report.specs.Reading.{stream_fault_view, stream_fault_words, StreamFaultIsLawful}
use Rattle.pd_report.specs.Remaining.{words_left}
use Rattle.pd_report.proofs.Lists.{refused_there}
use Rattle.pd_report.proofs.Pieces.{tail_is}
use Rattle.pd_report.proofs.refusal_line.stream_fault.Goals as goal

pub word_text-requires : goal.word_text-requires
word_text-requires c =
    stream_word c.in-Some-single.word.now (sym c.is_stream_word.ensures ∙ c.if-not-is_stream_word.false)

pub returns-in_default-leading_number : goal.returns-in_default-leading_number
returns-in_default-leading_number c = λ v h e.
    c.in_default-leading_number.ensures v.1 (v.2 ∷ []) h.1
    (tail_is _ _ _ _ (sym c.in-Some-after.ensures ∙ tail_is _ _ _ _ (sym c.in-Some.ensures.1 ∙ e)))

pub returns-in_err-word_text : goal.returns-in_err-word_text
returns-in_err-word_text c =
    let words = words_left c.args.words in
    let fault : ℕ × ℕ × List ℕ = (c.in-Some.stream, c.in-Some-leading_number.line, c.in-Some-single.word.now) in
    let is_word = sym c.is_stream_word.ensures ∙ c.if-not-is_stream_word.false in
    let same : words ≡ stream_fault_words fault =
    cc (c.in-Some.ensures.1, c.in-Some-after.ensures, c.in-Some-leading_number.ensures.1, c.in-Some-single.ensures) in
    refused_there stream_fault_view stream_fault_words StreamFaultIsLawful words c.from_residual.result
    c.from_residual.ensures.0 (fault, (c.in-Some.ensures.0, c.in-Some-leading_number.ensures.0, is_word), same)
