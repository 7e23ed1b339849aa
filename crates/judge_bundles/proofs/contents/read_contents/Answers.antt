-- What the parts hold that were read one after another is what the bundle holds.
use Rattle.std.proofs.Common.{◌≡◌, ◌∙◌, ℕ, List, [], ◌∷◌, sym, subst}
use Rattle.std.proofs.lemmas.Result.{IfOk-weaker}
use Rattle.def_format.specs.Documents.{IsDocument, inquiry_of}
use Rattle.judge_runs.specs.Views.{wishes_view}
use Rattle.pd_spec.specs.Views.{document_view, options_view}
use Rattle.read_bundle.proofs.PartSteps.{same_fault}
use Rattle.read_bundle.specs.PartsRead.{IsKept}
use Rattle.read_bundle.specs.Steps.{HasParts}
use Rattle.read_bundle.specs.declared.fault.BundleFault.TheVariants as faults
use Rattle.judge_bundles.proofs.contents.read_contents.Goals as goal

pub returns-in_err-document-clause-long : goal.returns-in_err-document-clause-long
returns-in_err-document-clause-long g c = λ reported.
    let input = g.R.ByteSource.left c.args.reader in
    c.in_err-document.ensures.long (same_fault c.from_residual-in_err-document.result c.in_err-document.field-0.0
    faults.Long c.from_residual-in_err-document.ensures.1 reported) input [] (c.in_ok-bundle.ensures.fresh input)

pub returns-in_err-document-clause-cause : goal.returns-in_err-document-clause-cause
returns-in_err-document-clause-cause g c = λ reported.
    let input = g.R.ByteSource.left c.args.reader in
    c.in_err-document.ensures.cause (same_fault c.from_residual-in_err-document.result c.in_err-document.field-0.0
    faults.Read c.from_residual-in_err-document.ensures.1 reported) input [] (c.in_ok-bundle.ensures.fresh input)

pub returns-in-Ok-clause-contents : goal.returns-in-Ok-clause-contents
returns-in-Ok-clause-contents g c =
    let input = g.R.ByteSource.left c.args.reader in
    let options = options_view c.args.options.now in
    let part = c.in_ok-document.ensures.part in
    let spec = document_view c.in-Ok.spec in
    let bytes : List ℕ = c.in_ok-document.document.items in
    let kept : IsKept c.deref.result.now part.part =
    subst (λ (kept : List ℕ). IsKept kept part.part) (sym c.deref.ensures.value) part.right in
    let same : bytes ≡ part.part = sym c.deref.ensures.value ∙ kept.same c.in-Ok.ensures.fits in
    let is : IsDocument (inquiry_of options bytes) spec =
    subst (λ (b : List ℕ). IsDocument (inquiry_of options b) spec) (sym same) (c.in-Ok.ensures.read part.part kept) in
    let parts : _ = subst (λ (b : List ℕ). HasParts c.in_ok-document.begins input
    (g.R.ByteSource.left c.read_document_part.new.reader) (b ∷ []) c.read_document_part.new.bundle) (sym same)
    (part.goes input [] (c.in_ok-bundle.ensures.fresh input)) in
    IfOk-weaker c.document_contents.result _ _ (λ contents given. given input options is parts)
    c.document_contents.ensures.contents

pub returns-in-Ok-clause-long : goal.returns-in-Ok-clause-long
returns-in-Ok-clause-long g c = λ reported.
    let input = g.R.ByteSource.left c.args.reader in
    let part = c.in_ok-document.ensures.part in
    c.document_contents.ensures.long reported input (part.part ∷ [])
    (part.goes input [] (c.in_ok-bundle.ensures.fresh input))

pub returns-in-Ok-clause-cause : goal.returns-in-Ok-clause-cause
returns-in-Ok-clause-cause g c = λ reported.
    let input = g.R.ByteSource.left c.args.reader in
    let part = c.in_ok-document.ensures.part in
    c.document_contents.ensures.cause reported input (part.part ∷ [])
    (part.goes input [] (c.in_ok-bundle.ensures.fresh input))

pub returns-clause-contents : goal.returns-clause-contents
returns-clause-contents g c =
    let input = g.R.ByteSource.left c.args.reader in
    let part = c.in_ok-document.ensures.part in
    let parts = part.goes input [] (c.in_ok-bundle.ensures.fresh input) in
    let kept : IsKept c.deref.result.now part.part =
    subst (λ (kept : List ℕ). IsKept kept part.part) (sym c.deref.ensures.value) part.right in
    IfOk-weaker c.refused_contents.result _ _
    (λ contents given. given input (options_view c.args.options.now) (wishes_view c.args.wishes.now) part.part
    (c.in-Err.ensures.fault part.part kept) parts) c.refused_contents.ensures.contents

pub returns-clause-long : goal.returns-clause-long
returns-clause-long g c = λ reported.
    let input = g.R.ByteSource.left c.args.reader in
    let part = c.in_ok-document.ensures.part in
    c.refused_contents.ensures.long reported input (part.part ∷ [])
    (part.goes input [] (c.in_ok-bundle.ensures.fresh input))

pub returns-clause-cause : goal.returns-clause-cause
returns-clause-cause g c = λ reported.
    let input = g.R.ByteSource.left c.args.reader in
    let part = c.in_ok-document.ensures.part in
    c.refused_contents.ensures.cause reported input (part.part ∷ [])
    (part.goes input [] (c.in_ok-bundle.ensures.fresh input))
