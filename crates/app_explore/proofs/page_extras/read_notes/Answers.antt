-- What the file of this name holds, or that it holds no notes.
use Rattle.std.proofs.Common.{arith, false}
use Rattle.app_host.proofs.FilesRead.{if_all_left, of_known_bytes, of_known_fate}
use Rattle.app_host.proofs.UnreadFiles.{same_fault}
use Rattle.judge_session.specs.declared.fault.EngineFault.TheVariants.{Read}
use Rattle.app_explore.proofs.NotesRead.{read_whole}
use Rattle.app_explore.proofs.page_extras.read_notes.Goals as goal

pub returns-in-Ok-clause-notes : goal.returns-in-Ok-clause-notes
returns-in-Ok-clause-notes g c =
    let file = (g.Y.Files.FileSource.file_of c.args.world.now.files.now c.args.name.now).source in
    let left = g.Y.Files.File.ByteSource.left c.in_ok-file.file.source in
    of_known_bytes file left _ c.in_ok-file.ensures.file
    (if_all_left left.bytes c.in_ok-bytes.bytes.items _ 67108864 c.in-Ok.ensures.same c.in_ok-bytes.ensures.prefix
    (omega (arith, c.in_ok-bytes.bytes.ok.0, c.in-Ok.ensures.fits)))

pub returns-in-Err-clause-sure : goal.returns-in-Err-clause-sure
returns-in-Err-clause-sure g c notes reported =
    let file = g.Y.Files.FileSource.file_of c.args.world.now.files.now c.args.name.now in
    let left = g.Y.Files.File.ByteSource.left c.in_ok-file.file.source in
    let whole = read_whole file left c.in_ok-bytes.bytes.items notes c.in_ok-file.ensures.file
    c.in_ok-bytes.ensures.prefix in
    let given = c.in-Err.ensures.sure (omega (arith, c.in_ok-bytes.bytes.ok.0, whole.0)) whole.1 in
    absurd (cc)

pub returns-in_err-file-clause-sure : goal.returns-in_err-file-clause-sure
returns-in_err-file-clause-sure g c notes reported = let opens = c.in_err-file.ensures.sure notes.opens in absurd (cc)

pub returns-in_err-bytes-clause-sure : goal.returns-in_err-bytes-clause-sure
returns-in_err-bytes-clause-sure g c notes reported =
    let file = (g.Y.Files.FileSource.file_of c.args.world.now.files.now c.args.name.now).source in
    let left = g.Y.Files.File.ByteSource.left c.in_ok-file.file.source in
    (c.in_err-bytes.ensures.cause (same_fault c.from_residual-in_err-bytes.result c.in_err-bytes.field-0.0 Read
    c.from_residual-in_err-bytes.ensures.1 reported)).may
    (of_known_fate file left false c.in_ok-file.ensures.file notes.ends)
