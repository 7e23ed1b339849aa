-- What the answer of a call of the engine says of the report that it owes.
use Rattle.std.specs.Prelude.{◌≡◌, ⊤, ℕ, List, Bool, true, false, Result, Ok, Err}
use Rattle.def_format.specs.Reports.{report_text}
use Rattle.def_format.specs.Reports as formats
use Rattle.def_judgement.specs.Headline.{is_judged}
use Rattle.pd_report.specs.Views.{report_view}
use Rattle.pd_report.specs.declared.report.Report.{Report}
use Rattle.judge_session.specs.declared.fault.EngineFault.{EngineFault}
use Rattle.pd_engine.specs.declared.outcome.Outcome.{Outcome}
use Rattle.pd_engine.specs.declared.outcome.Outcome.TheVariants.{Judged, Refused}

-- whether the outcome is that of a report with answers
abbrev pub outcome_view : Outcome → Bool
outcome_view Judged = true
outcome_view Refused = false

-- the report is the one that the call gives, if it gives one
abbrev pub IsGiven : Result Report EngineFault → formats.Report → Type 0
IsGiven (Ok given) report = report ≡ report_view given
IsGiven (Err fault) report = ⊤

-- the outcome is that of the report that another call gives, or both have the same fault
abbrev pub IsOutcomeOf : Result Report EngineFault → Result Outcome EngineFault → Type 0
IsOutcomeOf (Ok given) (Ok outcome) = outcome_view outcome ≡ is_judged (report_view given)
IsOutcomeOf (Ok given) (Err fault) = ⊥
IsOutcomeOf (Err fault) (Ok outcome) = ⊥
IsOutcomeOf (Err fault) (Err other) = other ≡ fault

-- the text of a report, which is the one that the call gives, if it gives one
pub record IsTextAs (report : formats.Report) (result : Result Report EngineFault) (text : List ℕ) : Type 0 where
  pub given : IsGiven result report
  pub is_text : text ≡ report_text report
