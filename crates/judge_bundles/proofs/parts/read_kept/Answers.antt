-- The document in what is kept of the first part is that of the part.
use Rattle.std.proofs.Common.{ℕ, List, arith, subst}
use Rattle.std.proofs.lemmas.Result.{IfErr-weaker, IfOk-weaker}
use Rattle.def_format.specs.Documents.{IsDocument, inquiry_of}
use Rattle.def_format.specs.Limits.{process_limit}
use Rattle.pd_spec.proofs.DocumentFacts.{long_bytes}
use Rattle.pd_spec.specs.Views.{IsFaultOf, document_view, options_view}
use Rattle.judge_bundles.proofs.parts.read_kept.Goals as goal

pub returns-then-kept-gt-DOCUMENT_BYTE_LIMIT-clause-fault :
    goal.returns-then-kept-gt-DOCUMENT_BYTE_LIMIT-clause-fault
returns-then-kept-gt-DOCUMENT_BYTE_LIMIT-clause-fault c = λ part kept.
    long_bytes process_limit (inquiry_of (options_view c.args.options.now) part)
    (kept.long (omega (arith, c.if-kept-gt-DOCUMENT_BYTE_LIMIT.true)))

pub returns-clause-read : goal.returns-clause-read
returns-clause-read c =
    IfOk-weaker c.read_with_options.result _ _ (λ spec is part kept.
    subst (λ (bytes : List ℕ). IsDocument (inquiry_of (options_view c.args.options.now) bytes) (document_view spec))
    (kept.same (omega (arith, c.if-kept-gt-DOCUMENT_BYTE_LIMIT.false))) is) c.read_with_options.ensures.ok

pub returns-clause-fault : goal.returns-clause-fault
returns-clause-fault c =
    IfErr-weaker c.read_with_options.result _ _ (λ fault is part kept.
    subst (λ (bytes : List ℕ). IsFaultOf (inquiry_of (options_view c.args.options.now) bytes) fault)
    (kept.same (omega (arith, c.if-kept-gt-DOCUMENT_BYTE_LIMIT.false))) is) c.read_with_options.ensures.err
