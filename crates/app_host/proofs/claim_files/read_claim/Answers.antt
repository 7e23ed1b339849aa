-- What is known of the readers is known of the files, and what of the files can't be opened or read may fail to be.
use Rattle.std.proofs.Common.{◌≡◌, ℕ, Bor, List, arith, false, inl, map, subst, suc, sym, true}
use Rattle.std.specs.Prelude.{All}
use Rattle.std.specs.List.{AllZip}
use Rattle.judge_session.specs.declared.fault.EngineFault.TheVariants.{Read}
use Rattle.app_host.specs.FileSources.{Knows}
use Rattle.app_host.proofs.FilesRead.{of_known_fate, read_of_file, sources_of_names, whole_of_file}
use Rattle.app_host.proofs.UnreadFiles.{all_open, same_fault, unread_report}
use Rattle.app_host.proofs.claim_files.read_claim.Goals as goal

pub returns-clause-document : goal.returns-clause-document
returns-clause-document g c =
    read_of_file (g.Y.Files.FileSource.file_of c.args.world.now.files.now c.args.names.now.spec.now).source
    (g.Y.Files.File.ByteSource.left c.in_ok-document.document.source) c.in_ok-document-2.document.items
    c.in_ok-document.ensures.file c.in_ok-document-2.ensures.read

pub returns-clause-report : goal.returns-clause-report
returns-clause-report g c =
    whole_of_file (g.Y.Files.FileSource.file_of c.args.world.now.files.now c.args.report.now).source
    (g.Y.Files.File.ByteSource.left c.in_ok-report.report.source) c.in_ok-report-2.report.items
    c.in_ok-report.ensures.file c.in_ok-report-2.ensures.whole

pub returns-clause-streams : goal.returns-clause-streams
returns-clause-streams g c =
    let files = g.Y.Files.FileSource.file_of c.args.world.now.files.now in
    subst (λ sources. AllZip Knows sources
    (map (λ stream. g.Y.Files.File.ByteSource.left stream.source) c.in_ok-streams.streams.items))
    (sources_of_names files (λ name. name.now) c.args.names.now.streams.items)
    (subst (λ (names : List (Bor (List ℕ))). AllZip Knows (map (λ name. (files name.now).source) names)
    (map (λ stream. g.Y.Files.File.ByteSource.left stream.source) c.in_ok-streams.streams.items)) c.deref.ensures.value
    c.in_ok-streams.ensures.known)

pub returns-in_err-document-clause-unread : goal.returns-in_err-document-clause-unread
returns-in_err-document-clause-unread g c reported = inl (λ opened read.
    let opens = c.in_err-document.ensures.sure
    (opened 0 (g.Y.Files.FileSource.file_of c.args.world.now.files.now c.args.names.now.spec.now) (omega arith)) in
    absurd (cc))

pub returns-in_err-report-clause-unread : goal.returns-in_err-report-clause-unread
returns-in_err-report-clause-unread g c reported = inl (λ opened read.
    let opens = c.in_err-report.ensures.sure
    (opened 1 (g.Y.Files.FileSource.file_of c.args.world.now.files.now c.args.report.now) (omega arith)) in absurd (cc))

pub returns-in_err-streams-clause-unread : goal.returns-in_err-streams-clause-unread
returns-in_err-streams-clause-unread g c reported = inl (λ opened read.
    let files = g.Y.Files.FileSource.file_of c.args.world.now.files.now in
    c.in_err-streams.ensures.sure
    (subst (λ (names : List (Bor (List ℕ))). All (λ name. (files name.now).opens ≡ true) names)
    (sym c.deref.ensures.value) (all_open files (λ name. name.now) c.args.names.now.streams.items
    (λ i d lt. opened (suc (suc i)) d (omega (arith, lt)))))
    (same_fault c.from_residual-in_err-streams.result c.in_err-streams.field-0.0 Read
    c.from_residual-in_err-streams.ensures.1 reported))

pub returns-in_err-document-2-clause-unread : goal.returns-in_err-document-2-clause-unread
returns-in_err-document-2-clause-unread g c reported = inl (λ opened read.
    let file = g.Y.Files.FileSource.file_of c.args.world.now.files.now c.args.names.now.spec.now in
    c.in_err-document-2.ensures.cause
    (same_fault c.from_residual-in_err-document-2.result c.in_err-document-2.field-0.0 Read
    c.from_residual-in_err-document-2.ensures.1 reported)
    (of_known_fate file.source (g.Y.Files.File.ByteSource.left c.in_ok-document.document.source) false
    c.in_ok-document.ensures.file (read 0 file (omega arith))))

pub returns-in_err-report-2-clause-unread : goal.returns-in_err-report-2-clause-unread
returns-in_err-report-2-clause-unread g c reported =
    let file = g.Y.Files.FileSource.file_of c.args.world.now.files.now c.args.report.now in
    unread_report file (g.Y.Files.File.ByteSource.left c.in_ok-report.report.source) _ _
    (λ read. read 1 file (omega arith)) c.in_ok-report.ensures.file
    (λ never. c.in_err-report-2.ensures.unread never
    (same_fault c.from_residual-in_err-report-2.result c.in_err-report-2.field-0.0 Read
    c.from_residual-in_err-report-2.ensures.1 reported))
