-- The file that is named is that of the process's stream.
use Rattle.std.proofs.Common.{string_bytes}
use Rattle.pd_spec.specs.Views.{document_view}
use Rattle.app_bundle.specs.RunLines.{IsStreamFile}
use Rattle.app_bundle.proofs.RunsRead.{named_file, stream_file}
use Rattle.app_bundle.proofs.streams.stream_at.Goals as goal

pub returns-clause-file : goal.returns-clause-file
returns-clause-file g c =
    let names = (document_view c.args.spec.now).names in
    named_file _ (IsStreamFile c.args.folder.now names)
    (λ file named. stream_file c.args.folder.now names c.names.result.now c.args.place c.name.result.now
    (string_bytes c.in_ok-path.path) file c.requires c.names.ensures c.name.ensures c.in_ok-path.ensures named)
    c.text_of.result c.text_of.ensures.file
