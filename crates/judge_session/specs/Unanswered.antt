-- Why a session comes to no answers, and which report is given of it.
use Rattle.std.specs.Prelude.{◌≢◌, List, Option, Some, None, IfSome, Result, Ok, Err}
use Rattle.def_format.specs.Reports as reports
use Rattle.pd_report.specs.Views.{refusal_view, report_view}
use Rattle.pd_report.specs.declared.report.Report.{Report}
use Rattle.judge_session.specs.declared.fault.EngineFault.{EngineFault}
use Rattle.judge_session.specs.declared.unanswered.Unanswered.{Unanswered}
use Rattle.judge_session.specs.declared.unanswered.Unanswered.TheVariants.{Refused, Memory}

-- the report of a session that is refused; out of memory there is none
abbrev pub refused_report : Unanswered → Option reports.Report
refused_report (Refused refusal) = Some (reports.Refused (refusal_view refusal))
refused_report Memory = None

-- if the session is refused, its report is such a one
abbrev pub IsUnanswered : (reports.Report → Type 0) → Unanswered → Type 0
IsUnanswered IsRight unanswered = IfSome (refused_report unanswered) IsRight

-- the report isn't the refusal of a causal cycle
abbrev pub NamesNoCycle : reports.Report → Type 0
NamesNoCycle report = (places : List reports.NamedPlace) → report ≢ reports.Refused (reports.Cycle places)

-- the report that is given of a session, judged or refused
abbrev pub given_report : Result Report Unanswered → Option reports.Report
given_report (Ok report) = Some (report_view report)
given_report (Err unanswered) = refused_report unanswered

-- the report that the engine gives
abbrev pub settled_report : Result Report EngineFault → Option reports.Report
settled_report (Ok report) = Some (report_view report)
settled_report (Err fault) = None
