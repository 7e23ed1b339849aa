-- The files of the names so far.
use Rattle.std.proofs.Common.{map, take}
use Rattle.judge_explore.specs.FileViews.{files_view}
use Rattle.judge_explore.specs.Sources.{AreFilesOf}
use Rattle.app_host.specs.FileSources.{bytes_in}
use Rattle.app_explore.proofs.exploration.stream_files.Given as goal

abbrev pub invariant-loop-name : goal.invariant-loop-name
invariant-loop-name g l =
    AreFilesOf (bytes_in (g.Y.Files.FileSource.file_of l.world.files.now)) (map (λ name. name.now) (take l.name-index
    l.names))
    (files_view l.found.items)
