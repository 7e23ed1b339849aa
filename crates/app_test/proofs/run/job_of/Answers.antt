-- The name says which it is.
use Rattle.judge_runs.specs.Views.{wishes_view}
use Rattle.pd_spec.specs.Views.{options_view}
use Rattle.app_test.proofs.BundleFiles.{job_of_bundle, job_of_folder}
use Rattle.app_test.proofs.run.job_of.Goals as goal

pub returns-then-is_bundle_name-clause-job : goal.returns-then-is_bundle_name-clause-job
returns-then-is_bundle_name-clause-job g c =
    job_of_bundle (λ stream. g.Y.Files.File.ByteSource.left stream.source)
    (g.Y.Files.FileSource.file_of c.args.world.now.files.now) (options_view c.args.options.now)
    (wishes_view c.args.wishes.now) c.args.name.now c.is_bundle_name.result c.bundle_job.result
    c.if-is_bundle_name.true c.is_bundle_name.ensures.yes c.bundle_job.ensures.job

pub returns-clause-job : goal.returns-clause-job
returns-clause-job g c =
    job_of_folder (λ stream. g.Y.Files.File.ByteSource.left stream.source)
    (g.Y.Files.FileSource.file_of c.args.world.now.files.now) (options_view c.args.options.now)
    (wishes_view c.args.wishes.now) c.args.name.now c.is_bundle_name.result c.folder_job.result
    c.if-is_bundle_name.false c.is_bundle_name.ensures.no c.folder_job.ensures.job
