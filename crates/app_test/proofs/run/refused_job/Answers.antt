-- Of a refused document no stream is read.
use Rattle.pd_spec.specs.Views.{options_view}
use Rattle.app_test.proofs.OutcomesOfRead.{refused_is_read}
use Rattle.app_test.proofs.run.refused_job.Goals as goal

pub returns-clause-job : goal.returns-clause-job
returns-clause-job g c = λ wishes.
    refused_is_read (g.Y.Files.FileSource.file_of c.args.world.now.files.now) (options_view c.args.options.now) wishes
    c.args.folder.now c.args.document.items (λ stream. g.Y.Files.File.ByteSource.left stream.source)
    c.new-streams.result.items c.requires.0 c.one_document.ensures.not_refused c.requires.1 c.new-streams.ensures.items
