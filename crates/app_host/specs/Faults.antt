-- The engine's faults and results, as ends of a run.
use Rattle.std.specs.Prelude.{Bool, true, false, List, Option, Some, None, Result, Ok, Err}
use Rattle.def_judgement.specs.Headline.{is_judged}
use Rattle.app_arguments.specs.Statuses.{Failure, MemoryFailure, ReadFailure, WriteFailure, BundleFailure, Ending, Success, Negative, Alarm, NoPredicate, Failed}
use Rattle.app_arguments.specs.Conditions as conditions
use Rattle.judge_runs.specs.Wishes.{Condition}
use Rattle.app_arguments.specs.Conditions.{Conclusion, conclusion}
use Rattle.pd_report.specs.Views.{report_view}
use Rattle.pd_report.specs.declared.report.Report.{Report}
use Rattle.pd_spec.specs.declared.fault.SpecFault.{SpecFault}
use Rattle.pd_spec.specs.declared.fault.SpecFault.TheVariants as spec_faults
use Rattle.judge_session.specs.declared.fault.EngineFault.{EngineFault}
use Rattle.judge_session.specs.declared.fault.EngineFault.TheVariants.{Memory, Write, Read, BundleLong}

abbrev pub failure_view : EngineFault → Failure
failure_view Memory = MemoryFailure
failure_view Write = WriteFailure
failure_view Read = ReadFailure
failure_view BundleLong = BundleFailure

-- nothing that a check found is bad, or something is; or the fault
abbrev pub ending_view : Result Bool EngineFault → Ending
ending_view (Ok true) = Success
ending_view (Ok false) = Negative
ending_view (Err fault) = Failed (failure_view fault)

-- a report is a session's that is judged, or a refusal
abbrev pub judged_ending : (judged : Bool) → Ending
judged_ending true = Success
judged_ending false = Negative

-- how a run ends that comes to a report, or the fault
abbrev pub report_ending : Result Report EngineFault → Ending
report_ending (Ok report) = judged_ending (is_judged (report_view report))
report_ending (Err fault) = Failed (failure_view fault)

-- the same by what a report comes to
abbrev pub concluded_ending : Conclusion → Ending
concluded_ending conditions.OfRefusal = Negative
concluded_ending conditions.Met = Alarm
concluded_ending conditions.Unmet = Success

-- how a run ends that is to fail on these answers and comes to a report, or the fault
abbrev pub judgement_ending : (fail_on : List Condition) → Result Report EngineFault → Ending
judgement_ending fail_on (Ok report) = concluded_ending (conclusion fail_on (report_view report))
judgement_ending fail_on (Err fault) = Failed (failure_view fault)

-- how a run ends that first looks up the predicates that are named: one isn't there, or it comes to a report, or the
-- fault
abbrev pub named_ending : (fail_on : List Condition) → Result (Option Report) EngineFault → Ending
named_ending fail_on (Ok None) = NoPredicate
named_ending fail_on (Ok (Some report)) = judgement_ending fail_on (Ok report)
named_ending fail_on (Err fault) = judgement_ending fail_on (Err fault)

-- whether a document's fault says nothing of the document
abbrev pub is_out_of_memory : SpecFault → Bool
is_out_of_memory spec_faults.Memory = true
is_out_of_memory _ = false
