-- A predicate's number, counted from 1, the word of its fault, and the byte at fault.
use Rattle.std.proofs.Common.{◌≡◌, ℕ, List, ◌≤◌, ◌∙◌, sym, arith}
use Rattle.def_format.proofs.OneReport.{one_decimal, predicate_word}
use Rattle.pd_report.specs.Reading.{at_fault_view, at_fault_words, AtFaultIsLawful}
use Rattle.pd_report.specs.Remaining.{words_left}
use Rattle.pd_report.proofs.Lists.{refused_there}
use Rattle.pd_report.proofs.Pieces.{head_is}
use Rattle.pd_report.proofs.refusal_line.predicate_fault.Goals as goal

pub word_text-requires : goal.word_text-requires
word_text-requires c =
    predicate_word c.in-Some-split_first.word.now (sym c.is_predicate_word.ensures ∙ c.if-not-is_predicate_word.false)

pub returns-then-k-eq0 : goal.returns-then-k-eq0
returns-then-k-eq0 c = λ v h e.
    let same : v.0 ≡ c.in-Some.k =
    one_decimal v.0 c.in-Some.k h.1 c.in-Some.ensures.0 (head_is _ _ _ _ (sym e ∙ c.in-Some.ensures.1)) in
    omega (arith, c.if-k-eq0.true, h.0)

pub returns-in_err-word_text : goal.returns-in_err-word_text
returns-in_err-word_text c =
    let words = words_left c.args.words in
    let fault : ℕ × List ℕ × ℕ = (c.in-Some.k, c.in-Some-split_first.word.now, c.in-Some-number.at) in
    let some : 1 ≤ c.in-Some.k = omega (arith, c.if-k-eq0.false) in
    let is_word = sym c.is_predicate_word.ensures ∙ c.if-not-is_predicate_word.false in
    let same : words ≡ at_fault_words fault =
    cc (
      c.in-Some.ensures.1,
      c.in-Some-split_first.ensures,
      c.in-Some-after.ensures,
      c.in-Some-single.ensures,
      c.in-Some-number.ensures.1,
    ) in
    refused_there at_fault_view at_fault_words AtFaultIsLawful words c.from_residual.result c.from_residual.ensures.0
    (fault, (some, c.in-Some.ensures.0, is_word, c.in-Some-number.ensures.0), same)
