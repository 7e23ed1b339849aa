-- A process without a stream, of the words after `absent`.
use Rattle.std.proofs.Common.{◌∷◌, refl, ap}
use Rattle.std.specs.Prelude.{codes}
use Rattle.def_format.specs.RefusalKinds.{AbsentKind}
use Rattle.def_format.specs.Reports.{refusal_words, Absent}
use Rattle.pd_report.specs.Reading.{IsOfKind}
use Rattle.pd_report.specs.Remaining.{words_left}
use Rattle.pd_report.specs.Views.{refusal_view}
use Rattle.pd_report.proofs.Lists.{refused_there}
use Rattle.pd_report.proofs.refusal_line.absent_refusal.Goals as goal

pub returns-in_err-name : goal.returns-in_err-name
returns-in_err-name c =
    let there = c.in_err-name.ensures in
    let rest = words_left c.args.rest in
    refused_there refusal_view refusal_words (IsOfKind AbsentKind) (codes "absent" ∷ rest) c.from_residual.result
    c.from_residual.ensures.0 (Absent there.0, (there.1, refl), ap (λ words. codes "absent" ∷ words) there.2)
