-- The choice by what the verdicts stand for.
use Rattle.std.proofs.Common.{sym, ap, ◌∙◌, map}
use Rattle.std.specs.Str.{bytes_eq}
use Rattle.def_format.specs.OtherTexts.{Checked}
use Rattle.pd_pred.proofs.Positions.{position-map}
use Rattle.judge_check.specs.Views.{checked_view}
use Rattle.judge_draw.specs.Choices.{by_evidence, by_name, has_evidence}
use Rattle.judge_draw.proofs.choice.chosen.Goals as goal

pub returns-in-Some : goal.returns-in-Some
returns-in-Some c =
    rw c.in-Some.is
    (c.of_name.ensures
    ∙ ap (by_name c.args.scope.now.kind (map checked_view c.args.checked.now))
    (sym (position-map (λ (checked : Checked). bytes_eq checked.name c.in-Some.name.now) checked_view
    c.args.checked.now)))

pub returns-in-None : goal.returns-in-None
returns-in-None c =
    rw c.in-None.is
    (c.first_with_evidence.ensures
    ∙ ap (by_evidence c.args.scope.now.kind) (sym (position-map (has_evidence c.args.scope.now.kind) checked_view
    c.args.checked.now)))
