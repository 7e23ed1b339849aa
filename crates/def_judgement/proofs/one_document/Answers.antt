-- Bytes are one document, or are refused with one fault.
use Rattle.def_judgement.proofs.DocumentsAreSingle.{one_document_lem, document_not_refused_lem, one_document_fault_lem}
use Rattle.def_judgement.proofs.one_document.Goals as goal

pub returns-clause-single : goal.returns-clause-single
returns-clause-single c = one_document_lem

pub returns-clause-not_refused : goal.returns-clause-not_refused
returns-clause-not_refused c = document_not_refused_lem

pub returns-clause-fault : goal.returns-clause-fault
returns-clause-fault c = one_document_fault_lem
