-- The name says which it is.
use Rattle.app_explore.specs.Explorations.{AskedObject}
use Rattle.pd_spec.specs.Views.{options_view}
use Rattle.app_results.proofs.BundlePages.{bundle_line, folder_line, made_of_bundle, made_of_folder}
use Rattle.app_results.proofs.run_page.run_text.Goals as goal

pub returns-then-is_bundle_name-clause-made : goal.returns-then-is_bundle_name-clause-made
returns-then-is_bundle_name-clause-made g c = λ asked is_form.
    made_of_bundle (g.Y.Files.FileSource.file_of c.args.world.now.files.now) (options_view c.args.test.now.options)
    asked c.args.name.now c.is_bundle_name.result c.bundle_text.result c.if-is_bundle_name.true
    c.is_bundle_name.ensures.yes (c.bundle_text.ensures asked is_form)

pub returns-then-is_bundle_name-clause-line : goal.returns-then-is_bundle_name-clause-line
returns-then-is_bundle_name-clause-line g c = λ is_object.
    bundle_line (g.Y.Files.FileSource.file_of c.args.world.now.files.now) (options_view c.args.test.now.options)
    c.args.name.now c.bundle_text.result (c.bundle_text.ensures AskedObject is_object)

pub returns-clause-made : goal.returns-clause-made
returns-clause-made g c = λ asked is_form.
    made_of_folder (g.Y.Files.FileSource.file_of c.args.world.now.files.now) (options_view c.args.test.now.options)
    asked c.args.name.now c.is_bundle_name.result c.folder_text.result c.if-is_bundle_name.false
    c.is_bundle_name.ensures.no (c.folder_text.ensures asked is_form)

pub returns-clause-line : goal.returns-clause-line
returns-clause-line g c = λ is_object.
    folder_line (g.Y.Files.FileSource.file_of c.args.world.now.files.now) (options_view c.args.test.now.options)
    c.args.name.now c.folder_text.result (c.folder_text.ensures AskedObject is_object)
