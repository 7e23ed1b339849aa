-- The messages of a session's traces, or their refusal.
use Rattle.std.proofs.Common.{subst}
use Rattle.def_model.specs.Messages.{HasLawfulMessages, Version}
use Rattle.pd_match.specs.Views.{match_fault_view}
use Rattle.def_format.specs.Versions.{version_view}
use Rattle.pd_spec.specs.Views.{document_view}
use Rattle.read_traces.specs.Views.{computation_view}
use Rattle.pd_report.specs.Views as views
use Rattle.judge_session.proofs.EarlyRefusals.{messages_name_none}
use Rattle.judge_session.proofs.FitTraces.{refused_report}
use Rattle.judge_session.proofs.computations.messages_of.Goals as goal

pub returns-in-Ok-clause-lawful : goal.returns-in-Ok-clause-lawful
returns-in-Ok-clause-lawful g c =
    subst (λ (version : Version). HasLawfulMessages version (computation_view c.args.traces.now)) c.version.ensures
    c.in-Ok.ensures.lawful

pub returns-in_ok-of_messages-in-Err-clause-refused : goal.returns-in_ok-of_messages-in-Err-clause-refused
returns-in_ok-of_messages-in-Err-clause-refused g c =
    refused_report (document_view c.args.spec.now) c.names.result.now (version_view c.version.result)
    c.args.traces.now (match_fault_view c.in-Err.fault) (views.refusal_view c.in_ok-of_messages-in-Err.field-0)
    c.names.ensures c.version.ensures c.in-Err.ensures.fault c.in_ok-of_messages-in-Err.ensures

pub returns-in_ok-of_messages-in-Err-clause-no_cycle : goal.returns-in_ok-of_messages-in-Err-clause-no_cycle
returns-in_ok-of_messages-in-Err-clause-no_cycle g c =
    messages_name_none c.names.result.now (match_fault_view c.in-Err.fault)
    (views.refusal_view c.in_ok-of_messages-in-Err.field-0) c.in_ok-of_messages-in-Err.ensures
