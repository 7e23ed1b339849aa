-- The notes of the names so far.
use Rattle.std.proofs.Common.{map, take}
use Rattle.std.specs.List.{AllZip}
use Rattle.std.specs.Prelude.{string_bytes}
use Rattle.app_host.specs.FileSources.{bytes_in}
use Rattle.app_explore.specs.Explorations.{IsNoteOf}
use Rattle.app_explore.proofs.page_extras.read_all_notes.Given as goal

abbrev pub invariant-loop-place : goal.invariant-loop-place
invariant-loop-place g l =
    AllZip (IsNoteOf (bytes_in (g.Y.Files.FileSource.file_of l.world.files.now)))
    (map (λ name. name.now) (take l.place l.names)) (map string_bytes l.notes.items)
