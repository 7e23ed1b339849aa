-- The file that can't be opened is that of the process's stream.
use Rattle.std.proofs.Common.{string_bytes}
use Rattle.pd_spec.specs.Views.{document_view}
use Rattle.app_test.proofs.OpenedStreams.{stream_unopened}
use Rattle.app_test.proofs.run_streams.open_stream.Goals as goal

pub returns-clause-unopened : goal.returns-clause-unopened
returns-clause-unopened g c =
    stream_unopened (g.Y.Files.FileSource.file_of c.args.world.now.files.now) c.args.folder.now
    (document_view c.args.spec.now).names c.names.result.now c.args.place c.name.result.now
    (string_bytes c.in_ok-path.path) c.deref.result.now c.requires c.names.ensures c.name.ensures c.in_ok-path.ensures
    c.deref.ensures (λ opens. let never = c.in-Err.ensures.sure opens in absurd (cc))
