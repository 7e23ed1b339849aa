-- The document in what is kept of the first part is that of the part.
use Rattle.std.proofs.Common.{ℕ, List, subst, arith}
use Rattle.read_bundle.specs.PartsRead.{IsKept}
use Rattle.def_format.specs.Documents.{plain}
use Rattle.def_format.specs.Limits.{process_limit}
use Rattle.def_format.specs.Reports.{Report}
use Rattle.def_judgement.specs.Judgements.{IsJudgement, RawStream}
use Rattle.pd_report.specs.Views.{refusal_view}
use Rattle.pd_spec.proofs.DocumentFacts.{long_bytes}
use Rattle.pd_spec.specs.declared.fault.SpecFault.TheVariants as faults
use Rattle.pd_engine.proofs.BundleReads.{refusal_weaker}
use Rattle.judge_session.proofs.DocumentRefusals.{refused_judged}
use Rattle.pd_engine.proofs.bundle_judges.read_kept_document.Goals as goal

pub returns-then-kept-gt-DOCUMENT_BYTE_LIMIT-clause-refused :
    goal.returns-then-kept-gt-DOCUMENT_BYTE_LIMIT-clause-refused
returns-then-kept-gt-DOCUMENT_BYTE_LIMIT-clause-refused c = λ part kept streams.
    refused_judged (plain part) streams faults.Long (refusal_view c.in_ok-of_document.field-0)
    (long_bytes process_limit (plain part) (kept.long (omega
    (arith, c.if-kept-gt-DOCUMENT_BYTE_LIMIT.true)))) c.in_ok-of_document.ensures

pub returns-clause-refused : goal.returns-clause-refused
returns-clause-refused c =
    refusal_weaker c.read_document.result
    (λ (report : Report). (streams : List RawStream) → IsJudgement (plain c.args.kept.now) streams report)
    (λ (report : Report). (part : List ℕ) → IsKept c.args.kept.now part → (streams : List RawStream)
    → IsJudgement (plain part) streams report)
    (λ report any part kept streams. subst (λ (bytes : List ℕ). IsJudgement (plain bytes) streams report)
    (kept.same (omega (arith, c.if-kept-gt-DOCUMENT_BYTE_LIMIT.false))) (any streams))
    c.read_document.ensures.refused
