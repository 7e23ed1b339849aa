-- The bytes of a stream, or its first ones, which are too many.
use Rattle.std.proofs.Common.{false}
use Rattle.app_host.proofs.FilesRead.{of_known_fate}
use Rattle.app_bundle.proofs.StreamsRead.{stream_result}
use Rattle.app_bundle.proofs.streams.read_file.Goals as goal

pub returns-clause-read : goal.returns-clause-read
returns-clause-read g c =
    let file = (g.Y.Files.FileSource.file_of c.args.world.now.files.now c.args.name.now).source in
    let left = g.Y.Files.File.ByteSource.left c.in_ok-file.file.source in
    stream_result file left c.read_upto.result c.in_ok-file.ensures.file c.read_upto.ensures.prefix
    c.read_upto.ensures.end

pub returns-clause-sure : goal.returns-clause-sure
returns-clause-sure g c opens fails reported =
    let file = (g.Y.Files.FileSource.file_of c.args.world.now.files.now c.args.name.now).source in
    let left = g.Y.Files.File.ByteSource.left c.in_ok-file.file.source in
    (c.read_upto.ensures.cause reported).may (of_known_fate file left false c.in_ok-file.ensures.file fails)

pub returns-in_err-file-clause-sure : goal.returns-in_err-file-clause-sure
returns-in_err-file-clause-sure g c opens fails reported =
    let opened = c.in_err-file.ensures.sure opens in absurd (cc)
