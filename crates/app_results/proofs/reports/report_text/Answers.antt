-- The text is that of the object, or of null.
use Rattle.pd_spec.specs.Views.{options_view}
use Rattle.app_results.proofs.ReportsAdded.{null_report, object_report}
use Rattle.app_results.proofs.reports.report_text.Goals as goal

pub returns-in-Ok-clause-report : goal.returns-in-Ok-clause-report
returns-in-Ok-clause-report g c =
    object_report (g.Y.Files.FileSource.file_of c.args.world.now.files.now) (options_view c.args.test.now.options)
    c.args.name.now c.in-Ok.text.items c.in-Ok.ensures.made c.in-Ok.ensures.line

pub returns-in_ok-text-in-Err-clause-report : goal.returns-in_ok-text-in-Err-clause-report
returns-in_ok-text-in-Err-clause-report g c =
    null_report (g.Y.Files.FileSource.file_of c.args.world.now.files.now) (options_view c.args.test.now.options)
    c.args.name.now c.in_ok-text-in-Err.text.items c.in_ok-text-in-Err.ensures
