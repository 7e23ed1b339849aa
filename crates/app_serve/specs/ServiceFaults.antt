-- A server's faults and results, as ends of a run.
use Rattle.std.specs.Prelude.{List, Option, Some, None, Result, Ok, Err}
use Rattle.app_arguments.specs.Statuses.{WriteFailure, NetworkFailure, Ending, Failed, NoPredicate}
use Rattle.judge_runs.specs.Wishes.{Condition}
use Rattle.app_arguments.specs.Conditions.{conclusion}
use Rattle.app_host.specs.Faults.{concluded_ending, failure_view}
use Rattle.app_serve.specs.declared.service_fault.ServiceFault.{ServiceFault}
use Rattle.app_serve.specs.declared.service_fault.ServiceFault.TheVariants.{Engine, Late, Network, Unkept}
use Rattle.pd_report.specs.Views.{report_view}
use Rattle.pd_report.specs.declared.report.Report.{Report}

-- how a server ends that is to fail on these answers and comes to a report, or the fault
abbrev pub service_ending : (fail_on : List Condition) → Result Report ServiceFault → Ending
service_ending fail_on (Ok report) = concluded_ending (conclusion fail_on (report_view report))
service_ending fail_on (Err (Engine fault)) = Failed (failure_view fault)
service_ending fail_on (Err Network) = Failed NetworkFailure
service_ending fail_on (Err Late) = Failed NetworkFailure
service_ending fail_on (Err Unkept) = Failed WriteFailure

-- how a server ends that first looks up the predicates that are named: one isn't there, or it comes to a report, or the
-- fault
abbrev pub named_service_ending : (fail_on : List Condition) → Result (Option Report) ServiceFault → Ending
named_service_ending fail_on (Ok None) = NoPredicate
named_service_ending fail_on (Ok (Some report)) = service_ending fail_on (Ok report)
named_service_ending fail_on (Err fault) = service_ending fail_on (Err fault)
