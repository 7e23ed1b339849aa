-- A refused document, of the words after `spec`.
use Rattle.std.proofs.Common.{◌∷◌, refl, ap}
use Rattle.std.specs.Prelude.{codes}
use Rattle.def_format.specs.RefusalKinds.{SpecKind}
use Rattle.def_format.specs.Reports.{refusal_words, Spec}
use Rattle.pd_report.specs.Reading.{IsOfKind}
use Rattle.pd_report.specs.Remaining.{words_left}
use Rattle.pd_report.specs.Views.{refusal_view}
use Rattle.pd_report.proofs.Lists.{refused_there}
use Rattle.pd_report.proofs.refusal_line.spec_refusal.Goals as goal

pub returns-in_err-word : goal.returns-in_err-word
returns-in_err-word c =
    let there = c.in_err-word.ensures in
    let rest = words_left c.args.rest in
    refused_there refusal_view refusal_words (IsOfKind SpecKind) (codes "spec" ∷ rest) c.from_residual.result
    c.from_residual.ensures.0 (Spec there.0, (there.1, refl), ap (λ words. codes "spec" ∷ words) there.2)
