-- The bundle is open, or its file may be such that it can't be opened.
use Rattle.std.proofs.Common.{string_bytes}
use Rattle.app_test.proofs.BundleFiles.{bundle_is_open, bundle_not_open}
use Rattle.app_test.proofs.run_bundle.bundle_job.Goals as goal

pub returns-in-Ok-clause-job : goal.returns-in-Ok-clause-job
returns-in-Ok-clause-job g c = λ options wishes outcome given.
    bundle_is_open (g.Y.Files.FileSource.file_of c.args.world.now.files.now) options wishes c.args.name.now
    (string_bytes c.in_ok-path.path) c.deref.result.now c.in_ok-path.ensures.ok c.deref.ensures outcome
    (g.Y.Files.File.ByteSource.left c.in-Ok.file.source) c.in-Ok.ensures.file given

pub returns-in-Err-clause-job : goal.returns-in-Err-clause-job
returns-in-Err-clause-job g c = λ options wishes outcome given.
    bundle_not_open (g.Y.Files.FileSource.file_of c.args.world.now.files.now) options wishes c.args.name.now
    (string_bytes c.in_ok-path.path) c.deref.result.now c.in_ok-path.ensures.ok c.deref.ensures outcome
    (λ opens. let never = c.in-Err.ensures.sure opens in absurd (cc)) given
