-- The first bytes of a document are all of it, or it is too long.
use Rattle.app_host.proofs.FilesRead.{document_read}
use Rattle.app_host.proofs.session_files.read_document.Goals as goal

pub returns-clause-read : goal.returns-clause-read
returns-clause-read g c =
    document_read (g.R.ByteSource.left c.args.reader) c.read_upto.result c.read_upto.ensures.prefix
    c.read_upto.ensures.end

pub returns-clause-cause : goal.returns-clause-cause
returns-clause-cause g c reported = (c.read_upto.ensures.cause reported).may
