-- The line of a run is its session's, or says which file has none.
use Rattle.std.proofs.Common.{map, string_bytes}
use Rattle.app_bundle.specs.Bundles.{of_session}
use Rattle.app_bundle.proofs.RunsRead.{no_text_line, unread_line}
use Rattle.app_bundle.proofs.run.line_of_run.Goals as goal

pub returns-in_ok-with_session-in-Ok-clause-line : goal.returns-in_ok-with_session-in-Ok-clause-line
returns-in_ok-with_session-in-Ok-clause-line g c =
    of_session (string_bytes c.in-Ok.bundled.document) (map string_bytes c.in-Ok.bundled.streams.items)
    c.in-Ok.ensures.session c.in_ok-with_session-in-Ok.ensures

pub returns-in_ok-without_session-in-Unread-clause-line : goal.returns-in_ok-without_session-in-Unread-clause-line
returns-in_ok-without_session-in-Unread-clause-line g c =
    unread_line (g.Y.Files.FileSource.file_of c.args.world.now.files.now) c.args.folder.now c.in-Unread.file
    c.deref.result.now _ c.deref.ensures (rw c.in-Unread.is at c.in-Err.ensures.none)
    (rw c.in-Unread.is at c.in-Err.ensures.file)
    c.in_ok-without_session-in-Unread.ensures

pub returns-in_ok-without_session-in-NoText-clause-line : goal.returns-in_ok-without_session-in-NoText-clause-line
returns-in_ok-without_session-in-NoText-clause-line g c =
    no_text_line (g.Y.Files.FileSource.file_of c.args.world.now.files.now) c.args.folder.now c.in-NoText.file
    c.deref-in-NoText.result.now _ c.deref-in-NoText.ensures (rw c.in-NoText.is at c.in-Err.ensures.none)
    (rw c.in-NoText.is at c.in-Err.ensures.file)
    c.in_ok-without_session-in-NoText.ensures
