-- What the files of streams stand for.
use Rattle.std.specs.Prelude.{List, map}
use Rattle.judge_explore.specs.Sources as sources
use Rattle.judge_explore.specs.declared.stream_file.StreamFile.{StreamFile}

abbrev pub file_view : StreamFile → sources.StreamFile
file_view file = record { name = file.name.now; join = file.join.items; lines = file.lines.items }

abbrev pub files_view : List StreamFile → List sources.StreamFile
files_view files = map file_view files
