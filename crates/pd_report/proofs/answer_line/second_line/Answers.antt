-- An answer's second line, under this name.
use Rattle.std.proofs.Common.{◌∙◌, ◌∷◌, [], sym, ap}
use Rattle.std.specs.Prelude.{codes}
use Rattle.std.proofs.lemmas.Result.{IfOk-weaker}
use Rattle.def_format.specs.Reports.{definitely_words, DefinitelyIsLawful}
use Rattle.pd_report.specs.Remaining.{words_left}
use Rattle.pd_report.specs.Views.{definitely_view}
use Rattle.pd_report.proofs.LineWords.{second_words, found_line}
use Rattle.pd_report.proofs.Pieces.{tail_is}
use Rattle.pd_report.proofs.answer_line.second_line.Goals as goal

pub returns-in_default : goal.returns-in_default
returns-in_default c = λ v h e.
    c.in_default.ensures (codes "definitely" ∷ definitely_words v) (c.new-words.ensures
    ∙ second_words c.args.line.now c.args.name.now c.requires v h e)

pub returns-in_default-after : goal.returns-in_default-after
returns-in_default-after c = λ v h e.
    let cut = sym c.in-Some.ensures ∙ c.new-words.ensures
    ∙ second_words c.args.line.now c.args.name.now c.requires v h e in
    c.in_default-after.ensures (definitely_words v) (tail_is _ _ _ _ cut)

pub returns : goal.returns
returns c =
    let line = c.args.line.now in
    let name = c.args.name.now in
    let prefix = name ∷ codes "definitely" ∷ [] in
    IfOk-weaker c.definitely.result _ _
    (found_line definitely_view definitely_words DefinitelyIsLawful prefix line (words_left c.in-Some-after.rest)
    (sym c.new-words.ensures ∙ c.in-Some.ensures
    ∙ ap (λ rest. name ∷ rest) c.in-Some-after.ensures)
    (second_words line name c.requires) (λ v e. tail_is _ _ _ _ (tail_is _ _ _ _ e))) c.definitely.ensures
