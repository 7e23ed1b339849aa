-- What a check leaves written by the files of these names.
use Rattle.std.proofs.Common.{List, ℕ, Err, ap, map, subst, sym}
use Rattle.app_arguments.specs.Statuses.{OfFinding, UnreadClaim, sources_of}
use Rattle.app_arguments.specs.Views.{format_view, session_view}
use Rattle.def_format.specs.Documents.{inquiry_of}
use Rattle.def_judgement.specs.Writes.{IsWholeInput, whole_source}
use Rattle.pd_spec.specs.Views.{options_view}
use Rattle.app_host.specs.Faults.{ending_view}
use Rattle.app_host.specs.FileSources.{IsReadOf}
use Rattle.app_host.specs.Formats.{IsFindingIn}
use Rattle.app_host.proofs.FilesRead.{check_of_files, leaves_of_read}
use Rattle.app_host.proofs.UnreadFiles.{unread_check}
use Rattle.app_host.proofs.checks.check_files.Goals as goal

pub returns-in-Ok : goal.returns-in-Ok
returns-in-Ok g c =
    let options = options_view c.args.names.now.options in
    let files = g.Y.Files.FileSource.file_of c.args.world.now.files.now in
    let document = files c.args.names.now.spec.now in
    let report = (files c.args.report.now).source in
    let sources = sources_of (map files (session_view c.args.names.now).1) in
    let format = format_view c.args.format in
    let lefts = map (λ stream. g.Y.Files.File.ByteSource.left stream.source) c.in-Ok.read.streams.items in
    let old = g.O.Write.contents c.args.output.now in
    let new = g.O.Write.contents c.check_read.new.output in
    let read : IsReadOf c.deref.result.now document.source =
    subst (λ (bytes : List ℕ). IsReadOf bytes document.source) (sym c.deref.ensures.value) c.in-Ok.ensures.document in
    let claimed : IsWholeInput report c.deref-in-Ok.result.now =
    subst (λ (bytes : List ℕ). IsWholeInput report bytes) (sym c.deref-in-Ok.ensures.value) c.in-Ok.ensures.report in
    leaves_of_read options document c.deref.result.now
    (UnreadClaim files c.args.names.now.spec.now c.args.report.now (session_view c.args.names.now).1)
    (OfFinding (IsFindingIn format) (whole_source c.deref-in-Ok.result.now) lefts
    (inquiry_of options c.deref.result.now))
    (OfFinding (IsFindingIn format) report sources) old new read
    (λ bytes same. check_of_files format options c.deref.result.now bytes report c.deref-in-Ok.result.now sources
    lefts old
    new claimed c.in-Ok.ensures.streams same) (ending_view c.check_read.result) c.check_read.ensures

pub returns-in-Err : goal.returns-in-Err
returns-in-Err g c =
    let files = g.Y.Files.FileSource.file_of c.args.world.now.files.now in
    let streams = (session_view c.args.names.now).1 in
    unread_check (options_view c.args.names.now.options) (files c.args.names.now.spec.now)
    (UnreadClaim files c.args.names.now.spec.now c.args.report.now streams)
    (OfFinding (IsFindingIn (format_view c.args.format)) (files c.args.report.now).source
    (sources_of (map files streams)))
    (g.O.Write.contents c.args.output.now) c.in-Err.fault c.in-Err.ensures.err
    (λ e. c.in-Err.ensures.unread (ap Err e))
