-- The refusal of a document is that of any run of it.
use Rattle.pd_report.specs.Views.{refusal_view}
use Rattle.judge_session.specs.Inquiries.{inquiry_view}
use Rattle.app_reduce.proofs.RefusedDocuments.{refused_run}
use Rattle.app_reduce.proofs.reductions.read_document.Goals as goal

pub returns-in_ok-of_document-in-Err-clause-refused : goal.returns-in_ok-of_document-in-Err-clause-refused
returns-in_ok-of_document-in-Err-clause-refused c = λ streams.
    refused_run (inquiry_view c.args.inquiry) streams c.in-Err.fault
    (refusal_view c.in_ok-of_document-in-Err.field-0)
    c.in-Err.ensures.err c.in_ok-of_document-in-Err.ensures
