-- The refusal, if the line is one.
use Rattle.std.proofs.Common.{◌∙◌, ◌∷◌, [], sym}
use Rattle.std.specs.Prelude.{codes}
use Rattle.def_format.specs.Reports.{refusal_words, RefusalIsLawful}
use Rattle.pd_report.specs.Remaining.{words_left}
use Rattle.pd_report.specs.Views.{refusal_view}
use Rattle.pd_report.proofs.LineWords.{read_line, refused_words}
use Rattle.pd_report.proofs.Pieces.{tail_is}
use Rattle.pd_report.proofs.refusal_line.refused_line.Goals as goal

pub returns-in_default : goal.returns-in_default
returns-in_default c = λ v h e.
    c.in_default.ensures (refusal_words v) (c.new.ensures ∙ refused_words c.args.line.now v h e)

pub returns : goal.returns
returns c =
    let line = c.args.line.now in
    read_line refusal_view refusal_words RefusalIsLawful (codes "refused" ∷ []) line (words_left c.in-Some.rest)
    (sym c.new.ensures ∙ c.in-Some.ensures) (λ v h e. refused_words line v h e) (λ v e. tail_is _ _ _ _ e)
    c.refusal.result c.refusal.ensures
