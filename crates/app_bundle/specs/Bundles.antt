-- The lines of recorded runs, each of which is the session in a folder.
use Rattle.std.specs.Prelude.{◌≡◌, ◌≢◌, ◌+◌, ◌≤◌, ◌⊎◌, ◌++◌, ◌∷◌, ⊤, ℕ, Bool, false, true, List, [], codes, flat_map, if◌then◌else◌, length, map, take, Option, Some, IfSome}
use Rattle.std.specs.List.{AllZip, list_all, slice_get}
use Rattle.std.specs.Str.{IsUtf8}
use Rattle.def_format.specs.Documents.{Document, DocumentFault, IsDocument, IsRefusedDocument, plain}
use Rattle.def_format.specs.Limits.{stream_byte_limit}
use Rattle.def_format.specs.Names.{ProcessNames}
use Rattle.def_judgement.specs.Writes.{Source, Whole, Writes}
use Rattle.app_arguments.specs.Statuses.{Ending, Failed, File, MayBeUnread, MemoryFailure, Negative, Success, WriteFailure, WritesUpTo, sources_of}
use Rattle.app_host.specs.FileSources.{IsReadOf}
use Rattle.app_test.specs.Tests.{document_in, stream_in}
use Rattle.out_lines.specs.Lines.{line_text, session_data, unread_data}

-- All bytes that a stream's source had left, if that is known, or a byte more of them than a stream may have: it is
-- refused by these as it is by all.
pub record IsStreamOf (source : Source) (bytes : List ℕ) : Type 0 where
  pub all : IfSome source.bytes (λ known. bytes ≡ take (stream_byte_limit + 1) known)
  pub ended : length bytes ≤ stream_byte_limit → source.fails ≢ Some true

-- The session in a folder, by the bytes of its document: the streams are those of its processes, in their order. Of a
-- document that is refused none is read.
pub record IsSessionIn (files : List ℕ → File) (folder document : List ℕ) (streams : List (List ℕ)) : Type 0 where
  pub is_read : IsReadOf document (files (document_in folder)).source
  pub of_document : (read : Document) → IsDocument (plain document) read
      → AllZip IsStreamOf (sources_of (map files (map (stream_in folder) read.names))) streams
  pub of_refused : (fault : DocumentFault) → IsRefusedDocument (plain document) fault → streams ≡ []

-- what comes of a run: its line, and whether it is a session's
pub record RunLine : Type 0 where
  pub is_session : Bool
  pub line : List ℕ

-- The name of a file of the run in a folder: of its document, or, if that is read and isn't refused, of a process's
-- stream.
pub data IsFileOfRun (files : List ℕ → File) (folder file : List ℕ) : Type 0 where
  the_document : file ≡ document_in folder → IsFileOfRun files folder file
  a_stream : (document : List ℕ) (read : Document) (place : ℕ) (process : ProcessNames)
      → IsReadOf document (files (document_in folder)).source → IsDocument (plain document) read
      → slice_get read.names place ≡ Some process → file ≡ stream_in folder process → IsFileOfRun files folder file

-- The line of the run in a folder: its session; or that this file of it can't be opened or read, which may be so, or
-- isn't UTF-8.
pub data IsLineOfRun (files : List ℕ → File) (folder : List ℕ) (run : RunLine) : Type 0 where
  of_session : (document : List ℕ) (streams : List (List ℕ)) → IsSessionIn files folder document streams
      → run ≡ record { is_session = true; line = line_text (session_data folder document streams) }
      → IsLineOfRun files folder run
  of_unread : (file : List ℕ) → IsFileOfRun files folder file → MayBeUnread (files file ∷ []) (files file ∷ [])
      → run ≡ record { is_session = false; line = line_text (unread_data folder (codes "unread " ++ file)) }
      → IsLineOfRun files folder run
  of_bytes : (file bytes : List ℕ) → IsFileOfRun files folder file
      → IsReadOf bytes (files file).source ⊎ IsStreamOf (files file).source bytes
      → ¬ IsUtf8 bytes
      → run ≡ record { is_session = false; line = line_text (unread_data folder (codes "no UTF-8 in " ++ file)) }
      → IsLineOfRun files folder run

-- the text of the lines of the runs in these folders, of which this is said
pub record IsTextOfRuns (files : List ℕ → File) (IsSaid : List RunLine → Type 0) (folders : List (List ℕ))
    (text : List ℕ) : Type 0 where
  pub runs : List RunLine
  pub are_runs : AllZip (IsLineOfRun files) folders runs
  pub said : IsSaid runs
  pub is_text : text ≡ flat_map (λ (run : RunLine). run.line) runs

-- the end that is due: a run has no session, or each has one
abbrev pub due_of_lines : List RunLine → Ending
due_of_lines runs = if list_all (λ (run : RunLine). run.is_session) runs then Success else Negative

-- What is left of a bundling of these runs: the text of all lines. The output fails, or memory runs out: that of the
-- first of them, or a prefix of it.
abbrev pub BundleLeaves : (files : List ℕ → File) (folders : List (List ℕ)) → Ending → (old new : Option (List ℕ))
    → Type 0
BundleLeaves files folders (Failed WriteFailure) old new =
    (count : ℕ) × WritesUpTo (IsTextOfRuns files (λ _. ⊤) (take count folders)) old new
BundleLeaves files folders (Failed MemoryFailure) old new =
    (count : ℕ) × WritesUpTo (IsTextOfRuns files (λ _. ⊤) (take count folders)) old new
BundleLeaves files folders (Failed failure) old new = ⊥
BundleLeaves files folders ending old new =
    Writes (IsTextOfRuns files (λ runs. ending ≡ due_of_lines runs) folders) Whole old new
