-- The refusal of a document is the report of any streams.
use Rattle.pd_report.specs.Views.{refusal_view}
use Rattle.judge_session.proofs.DocumentRefusals.{refused_judged}
use Rattle.judge_session.proofs.EarlyRefusals.{document_names_none}
use Rattle.judge_session.specs.Inquiries.{inquiry_view}
use Rattle.judge_session.specs.Refusals.{document_fault_view}
use Rattle.judge_session.proofs.document.read_inquiry.Goals as goal

pub returns-in_ok-of_document-in-Err-clause-refused : goal.returns-in_ok-of_document-in-Err-clause-refused
returns-in_ok-of_document-in-Err-clause-refused c = λ streams.
    refused_judged (inquiry_view c.args.inquiry) streams c.in-Err.fault
    (refusal_view c.in_ok-of_document-in-Err.field-0)
    c.in-Err.ensures.err c.in_ok-of_document-in-Err.ensures

pub returns-in_ok-of_document-in-Err-clause-no_cycle : goal.returns-in_ok-of_document-in-Err-clause-no_cycle
returns-in_ok-of_document-in-Err-clause-no_cycle c =
    document_names_none (document_fault_view c.in-Err.fault) (refusal_view c.in_ok-of_document-in-Err.field-0)
    c.in_ok-of_document-in-Err.ensures
