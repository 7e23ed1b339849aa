-- Where the events of a session were recorded, by the files of its streams.
use Rattle.std.specs.Prelude.{◌≡◌, ℕ, suc, Bool, false, ◌==◌, if◌then◌else◌, ◌⊎◌, ◌+◌, List, [], ◌∷◌, length, map, take, Option, None, Result, Ok, IfSome}
use Rattle.std.specs.List.{AllZip}
use Rattle.def_model.specs.Events.{Computation}
use Rattle.def_format.specs.Limits.{stream_byte_limit}
use Rattle.def_format.specs.Lines.{Line, finished_lines}
use Rattle.def_format.specs.Names.{ProcessNames}
use Rattle.def_format.specs.Records.{RecordFault, LineRecord, Joins, record_of}
use Rattle.out_page.specs.SourceData.{Source}

-- The file of a stream: its name, its first line that isn't blank, in which the stream joins its process, and the
-- numbers of the later ones.
pub record StreamFile : Type 0 where
  pub name : List ℕ
  pub join : List ℕ
  pub lines : List ℕ

-- the file of this name that has these lines; if none is known, only the name is
abbrev pub file_of_lines : List ℕ → List Line → StreamFile
file_of_lines name [] = record { name = name; join = []; lines = [] }
file_of_lines name (first ∷ later) =
    record { name = name; join = first.bytes; lines = map (λ (line : Line). line.number) later }

-- the file of this name that holds these bytes
abbrev pub stream_file : List ℕ → List ℕ → StreamFile
stream_file name bytes = file_of_lines name (finished_lines bytes)

-- ---- whose events they are

abbrev pub is_join_of : ℕ → Result LineRecord RecordFault → Bool
is_join_of process (Ok (Joins other)) = other == process
is_join_of process _ = false

-- Where this many events of a process were recorded: in the first file whose first line joins it. After the join each
-- line that isn't blank has an event, up to the end line.
abbrev pub source_in : List ProcessNames → (process events : ℕ) → List StreamFile → Source
source_in names process events [] = record { name = []; lines = [] }
source_in names process events (file ∷ others) =
    if is_join_of process (record_of names None file.join) then
    record { name = file.name; lines = take events file.lines } else source_in names process events others

-- the same of these processes, of which the first one has this number
abbrev pub sources_of : List ProcessNames → List StreamFile → (process : ℕ) → Computation → List Source
sources_of names files process [] = []
sources_of names files process (events ∷ others) =
    source_in names process (length events) files ∷ sources_of names files (suc process) others

-- ---- files that are read again

-- As many of a file's bytes as a stream may have, and one more. No line of a stream stands after them.
abbrev pub stream_bytes : List ℕ → List ℕ
stream_bytes bytes = take (stream_byte_limit + 1) bytes

-- The file has this name, and the lines of what the file of that name holds, if that is known; or its lines aren't
-- known, if it couldn't be read again.
abbrev pub IsFileOf : (bytes_of : List ℕ → Option (List ℕ)) → (name : List ℕ) → StreamFile → Type 0
IsFileOf bytes_of name file =
    (file.name ≡ name)
    × IfSome (bytes_of name) (λ bytes. (file ≡ file_of_lines name []) ⊎ (file ≡ stream_file name (stream_bytes bytes)))

-- the files of these names, in their order
abbrev pub AreFilesOf : (bytes_of : List ℕ → Option (List ℕ)) → (names : List (List ℕ)) → List StreamFile → Type 0
AreFilesOf bytes_of names files = AllZip (IsFileOf bytes_of) names files
