-- What is made of the parts that were read is made of the bundle in the file.
use Rattle.judge_explore.specs.Forms.{form_view}
use Rattle.pd_spec.specs.Views.{options_view}
use Rattle.app_results.proofs.BundlePages.{made_of_parts}
use Rattle.app_results.proofs.bundle_pages.bundle_text.Goals as goal

pub returns : goal.returns
returns g c = λ asked is_form.
    made_of_parts (g.Y.Files.FileSource.file_of c.args.world.now.files.now) (options_view c.args.test.now.options)
    asked c.args.name.now (g.Y.Files.File.ByteSource.left c.in_ok-file.file.source) c.in_ok-file.ensures.file
    (form_view c.args.form) is_form c.in-Some.parts (rw c.in-Some.is at c.in_ok-parts.ensures) c.parts_page.result
    c.parts_page.ensures
