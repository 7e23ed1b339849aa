-- A finding with nothing bad says that the report is the refusal.
use Rattle.std.proofs.Common.{IsTrue, sym, subst, ◌↔◌, ◌≡◌}
use Rattle.std.specs.Prelude.{Bool}
use Rattle.judge_check.specs.Views.{finding_view}
use Rattle.def_format.specs.Reports.{Refused}
use Rattle.pd_report.specs.Views.{refusal_view, report_view}
use Rattle.judge_draw.proofs.CycleNames.{clean_claims}
use Rattle.judge_draw.proofs.refused.is_claimed.Goals as goal

pub returns : goal.returns
returns c =
    subst (λ (clean : Bool). IsTrue clean
    ↔ (report_view c.args.claimed.now ≡ Refused (refusal_view c.args.refusal.now))) (sym c.is_clean.ensures)
    (clean_claims (refusal_view c.args.refusal.now) (report_view c.args.claimed.now)
    (finding_view c.find_refused.result) c.find_refused.ensures)
