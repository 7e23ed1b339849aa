-- What is made of the bytes that were read of the document is made of the file.
use Rattle.std.proofs.Common.{◌≡◌, ℕ, List, subst, ◌∙◌}
use Rattle.std.specs.Prelude.{IfOk}
use Rattle.def_format.specs.Documents.{inquiry_of}
use Rattle.app_host.specs.FileSources.{IsReadOf}
use Rattle.app_test.specs.Tests.{document_in}
use Rattle.pd_spec.specs.Views.{options_view}
use Rattle.app_results.specs.RunPages.{IsMadeOfDocument}
use Rattle.app_results.proofs.PagesOfRuns.{texts_of_read}
use Rattle.app_results.proofs.run_page.folder_text.Goals as goal

pub returns-in-Ok : goal.returns-in-Ok
returns-in-Ok g c = λ asked is_form.
    let files = g.Y.Files.FileSource.file_of c.args.world.now.files.now in
    let path : c.deref.result.now ≡ document_in c.args.folder.now = c.deref.ensures ∙ c.in_ok-path.ensures in
    let read : IsReadOf c.in_ok-document.document.items (files (document_in c.args.folder.now)).source =
    subst (λ (p : List ℕ). IsReadOf c.in_ok-document.document.items (files p).source) path
    c.in_ok-document.ensures.read in
    texts_of_read files asked c.args.folder.now (options_view c.args.test.now.options)
    (files (document_in c.args.folder.now)) c.in_ok-document.document.items read c.document_text.result
    (subst (λ (bytes : List ℕ). IfOk c.document_text.result (λ text. IsMadeOfDocument files asked c.args.folder.now
    (inquiry_of (options_view c.args.test.now.options) bytes) text.items))
    c.deref-in-Ok-2.ensures.value (c.document_text.ensures asked is_form))
