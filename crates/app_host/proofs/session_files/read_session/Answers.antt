-- What is known of the readers is known of the files, and what of the files can't be opened or read may fail to be.
use Rattle.std.proofs.Common.{◌≡◌, ℕ, Bor, List, arith, false, map, subst, suc, sym, true}
use Rattle.std.specs.Prelude.{All}
use Rattle.std.specs.List.{AllZip}
use Rattle.judge_session.specs.declared.fault.EngineFault.TheVariants.{Read}
use Rattle.app_host.specs.FileSources.{Knows}
use Rattle.app_host.proofs.FilesRead.{of_known_fate, read_of_file, sources_of_names}
use Rattle.app_host.proofs.UnreadFiles.{all_open, same_fault}
use Rattle.app_host.proofs.session_files.read_session.Goals as goal

pub returns-clause-document : goal.returns-clause-document
returns-clause-document g c =
    read_of_file (g.Y.Files.FileSource.file_of c.args.world.now.files.now c.args.names.now.spec.now).source
    (g.Y.Files.File.ByteSource.left c.in_ok-spec.spec.source) c.in_ok-document.document.items c.in_ok-spec.ensures.file
    c.in_ok-document.ensures.read

pub returns-clause-streams : goal.returns-clause-streams
returns-clause-streams g c =
    let files = g.Y.Files.FileSource.file_of c.args.world.now.files.now in
    subst (λ sources. AllZip Knows sources
    (map (λ stream. g.Y.Files.File.ByteSource.left stream.source) c.in_ok-streams.streams.items))
    (sources_of_names files (λ name. name.now) c.args.names.now.streams.items)
    (subst (λ (names : List (Bor (List ℕ))). AllZip Knows (map (λ name. (files name.now).source) names)
    (map (λ stream. g.Y.Files.File.ByteSource.left stream.source) c.in_ok-streams.streams.items)) c.deref.ensures.value
    c.in_ok-streams.ensures.known)

pub returns-in_err-spec-clause-unread : goal.returns-in_err-spec-clause-unread
returns-in_err-spec-clause-unread g c reported = λ opened read.
    let opens = c.in_err-spec.ensures.sure
    (opened 0 (g.Y.Files.FileSource.file_of c.args.world.now.files.now c.args.names.now.spec.now) (omega arith)) in
    absurd (cc)

pub returns-in_err-streams-clause-unread : goal.returns-in_err-streams-clause-unread
returns-in_err-streams-clause-unread g c reported = λ opened read.
    let files = g.Y.Files.FileSource.file_of c.args.world.now.files.now in
    c.in_err-streams.ensures.sure
    (subst (λ (names : List (Bor (List ℕ))). All (λ name. (files name.now).opens ≡ true) names)
    (sym c.deref.ensures.value) (all_open files (λ name. name.now) c.args.names.now.streams.items
    (λ i d lt. opened (suc i) d (omega (arith, lt)))))
    (same_fault c.from_residual-in_err-streams.result c.in_err-streams.field-0.0 Read
    c.from_residual-in_err-streams.ensures.1 reported)

pub returns-in_err-document-clause-unread : goal.returns-in_err-document-clause-unread
returns-in_err-document-clause-unread g c reported = λ opened read.
    let file = g.Y.Files.FileSource.file_of c.args.world.now.files.now c.args.names.now.spec.now in
    c.in_err-document.ensures.cause
    (same_fault c.from_residual-in_err-document.result c.in_err-document.field-0.0 Read
    c.from_residual-in_err-document.ensures.1 reported)
    (of_known_fate file.source (g.Y.Files.File.ByteSource.left c.in_ok-spec.spec.source) false c.in_ok-spec.ensures.file
    (read 0 file (omega arith)))
