-- What is found of a session gives what comes of the bundle.
use Rattle.std.proofs.Common.{ℕ, List, subst}
use Rattle.def_format.specs.Documents.{IsDocument, inquiry_of}
use Rattle.judge_shared.specs.Sharing.{IsFound}
use Rattle.pd_gather.specs.Views.{results_view}
use Rattle.pd_spec.specs.Views.{document_view}
use Rattle.judge_bundles.specs.Contents.{HoldsContents, HoldsSession}
use Rattle.judge_bundles.specs.declared.contents.Contents.{Contents}
use Rattle.judge_bundles.proofs.BundleContents.{session_held}
use Rattle.judge_bundles.proofs.trials.trial_of_contents.Goals as goal

pub returns-in_ok-found-in-Session-clause-trial : goal.returns-in_ok-found-in-Session-clause-trial
returns-in_ok-found-in-Session-clause-trial g c = λ options wishes input sound held.
    let bytes : List ℕ = c.in-Session.document.items in
    let spec = c.in-Session.spec in
    let gathered = c.in-Session.gathered in
    let results = results_view gathered.readings.items in
    let session : HoldsSession options wishes input bytes spec gathered =
    subst (λ (contents : Contents). HoldsContents options wishes input contents) c.in-Session.is held in
    let found : IsFound options bytes (document_view spec) gathered.streams results c.in_ok-found-in-Session.found =
    subst (λ (b : List ℕ). IsDocument (inquiry_of options b) (document_view spec)
    → IsFound options b (document_view spec) gathered.streams results c.in_ok-found-in-Session.found)
    c.deref.ensures.value (λ is. c.in_ok-found-in-Session.ensures.found options is sound) session.is_document in (
      document_view spec,
      gathered.streams,
      results,
      found,
      λ report is.
          session_held input options wishes bytes spec gathered report c.one_document.ensures.single
          c.judgement_is_true.ensures session is,
    )
