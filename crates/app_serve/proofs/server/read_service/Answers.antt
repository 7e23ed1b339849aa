-- What is known of the reader is known of the file.
use Rattle.app_host.proofs.FilesRead.{read_of_file}
use Rattle.app_serve.proofs.server.read_service.Goals as goal

pub returns-clause-document : goal.returns-clause-document
returns-clause-document g c =
    read_of_file (g.F.FileSource.file_of c.args.host.now.files.now c.args.host.now.service.now.spec.now).source
    (g.F.File.ByteSource.left c.in_ok-file.file.source) c.in_ok-document.document.items c.in_ok-file.ensures.file
    c.in_ok-document.ensures.read
