-- What is known of the readers is known of the files.
use Rattle.pd_spec.specs.Views.{document_view, options_view}
use Rattle.app_test.proofs.OutcomesOfRead.{document_is_read}
use Rattle.app_test.proofs.run.streams_job.Goals as goal

pub returns-in-Ok-clause-job : goal.returns-in-Ok-clause-job
returns-in-Ok-clause-job g c = λ wishes named.
    document_is_read (g.Y.Files.FileSource.file_of c.args.world.now.files.now) (options_view c.args.options.now) wishes
    c.args.folder.now c.args.document.items (λ stream. g.Y.Files.File.ByteSource.left stream.source)
    c.in-Ok.streams.items (document_view c.args.spec.now) c.one_document.ensures.single
    c.one_document.ensures.not_refused c.requires named c.in-Ok.ensures.known
