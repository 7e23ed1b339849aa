-- A refusal stands against the picture, and answers are judged.
use Rattle.std.proofs.Common.{ap, refl}
use Rattle.pd_report.specs.Views as views
use Rattle.judge_check.specs.Found.{of_refusal}
use Rattle.judge_draw.proofs.drawn.draw.Goals as goal

pub returns-in-Refused : goal.returns-in-Refused
returns-in-Refused c = record {
  found = of_refusal (views.refusal_view c.in-Refused.field-0) (ap views.report_view c.in-Refused.is);
  stands = refl;
}
