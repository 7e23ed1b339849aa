-- A refused predicate, of the words after `predicate`.
use Rattle.std.proofs.Common.{◌∷◌, refl, ap}
use Rattle.std.specs.Prelude.{codes}
use Rattle.def_format.specs.RefusalKinds.{PredicateKind}
use Rattle.def_format.specs.Reports.{refusal_words, Predicate}
use Rattle.pd_report.specs.Reading.{IsOfKind}
use Rattle.pd_report.specs.Remaining.{words_left}
use Rattle.pd_report.specs.Views.{refusal_view}
use Rattle.pd_report.proofs.Lists.{refused_there}
use Rattle.pd_report.proofs.RefusalKinds.{no_predicate}
use Rattle.pd_report.proofs.refusal_line.predicate_refusal.Goals as goal

pub returns-in_default : goal.returns-in_default
returns-in_default c = no_predicate (words_left c.args.rest) (rw c.in_default.is at c.in_ok-k.ensures)

pub returns-in_err-k : goal.returns-in_err-k
returns-in_err-k c =
    let there = c.in_err-k.ensures in
    let rest = words_left c.args.rest in
    refused_there refusal_view refusal_words (IsOfKind PredicateKind) (codes "predicate" ∷ rest) c.from_residual.result
    c.from_residual.ensures.0 (
      Predicate there.0.0 there.0.1 there.0.2,
      (there.1, refl),
      ap (λ words. codes "predicate" ∷ words) there.2,
    )
