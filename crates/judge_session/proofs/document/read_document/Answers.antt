-- Nothing is asked beside the bytes.
use Rattle.std.proofs.Common.{List, subst}
use Rattle.std.specs.Prelude.{IfErr, IfOk}
use Rattle.def_format.specs.Documents.{IsDocument, Options, inquiry_of}
use Rattle.def_judgement.specs.Judgements.{IsJudgement, RawStream}
use Rattle.pd_spec.specs.Views.{document_view}
use Rattle.judge_session.specs.Unanswered.{IsUnanswered}
use Rattle.judge_session.proofs.document.read_document.Goals as goal

pub returns-clause-read : goal.returns-clause-read
returns-clause-read c =
    subst (λ (options : Options). IfOk c.read_inquiry.result (λ spec.
    IsDocument (inquiry_of options c.args.bytes.now) (document_view spec))) c.none-options.ensures
    c.read_inquiry.ensures.read

pub returns-clause-refused : goal.returns-clause-refused
returns-clause-refused c =
    subst (λ (options : Options). IfErr c.read_inquiry.result (IsUnanswered (λ report. (streams : List RawStream)
    → IsJudgement (inquiry_of options c.args.bytes.now) streams report))) c.none-options.ensures
    c.read_inquiry.ensures.refused
