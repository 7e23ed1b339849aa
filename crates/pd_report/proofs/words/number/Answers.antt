-- The number of 64 bits, in digits with no zero before them.
use Rattle.std.proofs.Common.{◌≡◌, ◌∙◌, ap, sym}
use Rattle.std.specs.Prelude.{decimal}
use Rattle.std.proofs.lemmas.Fmt.{parse-decimal}
use Rattle.pd_report.proofs.Pieces.{number_is_text}
use Rattle.pd_report.proofs.words.number.Goals as goal

pub returns-in_default : goal.returns-in_default
returns-in_default c = λ n fits e. c.in_default.ensures.cases.0 (number_is_text n c.args.word.now fits e)

pub returns-in_default-parse : goal.returns-in_default-parse
returns-in_default-parse c = λ n fits e. let done =
    parse-decimal 64 n c.in-Ok.text.now c.parse.result fits fits (c.in-Ok.ensures.cases.0 ∙ e) c.parse.ensures.value.0
    in absurd (cc)

pub returns-else-is_decimal : goal.returns-else-is_decimal
returns-else-is_decimal c = λ n fits e.
    let done =
    parse-decimal 64 n c.in-Ok.text.now c.parse.result fits fits (c.in-Ok.ensures.cases.0
    ∙ e) c.parse.ensures.value.0 in
    let same : c.in-Ok-parse.number ≡ n = cc in
    let yes = c.is_decimal.ensures.1 (e ∙ ap decimal (sym same)) in
    absurd (cc)
