-- What a run that draws leaves by the files of these names.
use Rattle.std.proofs.Common.{◌∷◌, [], List, ℕ, Err, ap, map, subst, sym}
use Rattle.app_arguments.specs.Statuses.{MayBeUnread, sources_of}
use Rattle.app_arguments.specs.Views.{session_view}
use Rattle.pd_spec.specs.Views.{options_view}
use Rattle.out_picture.specs.Scopes.{scope_view}
use Rattle.app_draw.specs.Drawings.{OfFiles}
use Rattle.app_host.specs.FileSources.{IsReadOf}
use Rattle.app_draw.proofs.FilesDrawn.{drawn_of_files}
use Rattle.app_draw.proofs.UnreadDrawings.{unread_drawing}
use Rattle.app_draw.proofs.draw_files.draw_files.Goals as goal

pub returns-in-Ok : goal.returns-in-Ok
returns-in-Ok g c =
    let files = g.Y.Files.FileSource.file_of c.args.world.now.files.now in
    let document = files c.args.names.now.spec.now in
    let others = map files (session_view c.args.names.now).1 in
    let lefts = map (λ stream. g.Y.Files.File.ByteSource.left stream.source) c.in-Ok.read.streams.items in
    let read : IsReadOf c.deref.result.now document.source =
    subst (λ (bytes : List ℕ). IsReadOf bytes document.source) (sym c.deref.ensures.value) c.in-Ok.ensures.document in
    drawn_of_files (options_view c.args.names.now.options) document c.deref.result.now (sources_of others) lefts
    (MayBeUnread (document ∷ others) (document ∷ [])) (scope_view c.args.scope.now)
    (g.O.Write.contents c.args.output.now) (g.O.Write.contents c.draw_session.new.output) read c.in-Ok.ensures.streams
    c.draw_session.result c.draw_session.ensures

pub returns-in-Err : goal.returns-in-Err
returns-in-Err g c =
    let files = g.Y.Files.FileSource.file_of c.args.world.now.files.now in
    let document = files c.args.names.now.spec.now in
    let others = map files (session_view c.args.names.now).1 in
    unread_drawing (options_view c.args.names.now.options) document (MayBeUnread (document ∷ others) (document ∷ []))
    (OfFiles (sources_of others) (scope_view c.args.scope.now)) (g.O.Write.contents c.args.output.now) c.in-Err.fault
    c.in-Err.ensures.err (λ e. c.in-Err.ensures.unread (ap Err e))
