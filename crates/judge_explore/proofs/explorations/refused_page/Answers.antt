-- What is made of a refusal is owed.
use Rattle.std.proofs.Common.{Ok, refl}
use Rattle.pd_report.specs.Views.{refusal_view}
use Rattle.pd_engine.specs.Ends.{IsGiven}
use Rattle.pd_report.specs.declared.report.Report.TheVariants.{Refused}
use Rattle.judge_explore.specs.Forms.{form_view}
use Rattle.judge_explore.proofs.Written.{refusal_owed}
use Rattle.judge_explore.proofs.explorations.refused_page.Goals as goal

pub returns : goal.returns
returns c = λ inquiry files inputs own.
    refusal_owed inquiry (form_view c.args.form) files inputs (refusal_view c.args.refusal)
    (IsGiven (Ok (Refused c.args.refusal))) c.args.explanation.now c.in_ok-text.text.items own refl
    c.in_ok-text.ensures
