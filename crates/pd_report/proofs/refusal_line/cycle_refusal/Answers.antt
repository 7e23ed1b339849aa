-- A causal cycle, of the words after `cycle`.
use Rattle.std.proofs.Common.{◌∷◌, refl, ap}
use Rattle.std.specs.Prelude.{codes}
use Rattle.def_format.specs.RefusalKinds.{CycleKind}
use Rattle.def_format.specs.Reports.{refusal_words, Cycle}
use Rattle.pd_report.specs.Reading.{IsOfKind}
use Rattle.pd_report.specs.Remaining.{words_left}
use Rattle.pd_report.specs.Views.{refusal_view}
use Rattle.pd_report.proofs.Lists.{refused_there}
use Rattle.pd_report.proofs.refusal_line.cycle_refusal.Goals as goal

pub returns-in_err-places : goal.returns-in_err-places
returns-in_err-places c =
    let there = c.in_err-places.ensures in
    let rest = words_left c.args.rest in
    refused_there refusal_view refusal_words (IsOfKind CycleKind) (codes "cycle" ∷ rest) c.from_residual.result
    c.from_residual.ensures.0 (Cycle there.0, (there.1, refl), ap (λ words. codes "cycle" ∷ words) there.2)
