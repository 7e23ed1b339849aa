-- What a run that infers a document leaves on its output and on its errors, by the files of the streams.
use Rattle.std.specs.Prelude.{◌≡◌, ◌<◌, ℕ, true, List, [], ◌++◌, codes, length, map, slice_index_or, take, Option, Some, IfSome, Result, Ok, Err}
use Rattle.std.specs.Io.KnownBytes.{Keeps}
use Rattle.std.specs.List.{AllZip}
use Rattle.app_arguments.specs.Statuses.{File, MayBeUnread, WritesUpTo, line_of_failure, status_of_failure}
use Rattle.app_host.specs.Faults.{failure_view}
use Rattle.def_format.specs.Limits.{stream_byte_limit}
use Rattle.def_judgement.specs.Writes.{Source, Whole, Writes}
use Rattle.judge_infer.specs.Streams.{Found, Process, process_of_stream}
use Rattle.judge_infer.specs.FirstDocuments.{document_of}
use Rattle.judge_session.specs.declared.fault.EngineFault.{EngineFault}
use Rattle.judge_session.specs.declared.fault.EngineFault.TheVariants.{Memory, Write, Read}
use Rattle.app_infer.specs.declared.outcome.InferOutcome.{InferOutcome}
use Rattle.app_infer.specs.declared.outcome.InferOutcome.TheVariants.{Written, Refused}

-- the line that reports why there is no document
unfoldable pub refused_line : (why : List ℕ) → List ℕ
refused_line why = codes "monitor: no document: " ++ why ++ codes "\n"

-- ---- what the streams say

-- The bytes of a stream that is read from this source say this: all bytes that it had left, if these are known, to its
-- end, unless they are more than a stream may have.
pub record IsStreamOf (source : Source) (due : Found) : Type 0 where
  pub bytes : List ℕ
  pub all : IfSome source.bytes (λ known. bytes ≡ known)
  pub ended : source.fails ≡ Some true → stream_byte_limit < length bytes
  pub says : process_of_stream bytes ≡ due

-- the streams in the files of these names say what they do of their processes, and have this document, or none for this
pub record Infers (files : List ℕ → File) (names : List (List ℕ)) (due : Result (List ℕ) (List ℕ)) : Type 0 where
  pub processes : List Process
  pub said : AllZip (λ name process. IsStreamOf (files name).source (Ok process)) names processes
  pub is_due : document_of names processes ≡ due

-- The stream at some place is refused, and those before it are not; or all streams are read, and have no document
-- together. The notice says so.
pub data IsRefusedFor (files : List ℕ → File) (names : List (List ℕ)) (notice : List ℕ) : Type 0 where
  of_stream : (place : ℕ) (processes : List Process) (why : List ℕ) → place < length names
      → AllZip (λ name process. IsStreamOf (files name).source (Ok process)) (take place names) processes
      → IsStreamOf (files (slice_index_or names place [])).source (Err why)
      → notice ≡ refused_line (slice_index_or names place [] ++ why) → IsRefusedFor files names notice
  of_all : (why : List ℕ) → Infers files names (Err why) → notice ≡ refused_line why → IsRefusedFor files names notice

-- ---- what is left

-- The document is written: its whole text. The output fails: that text or a prefix of it. The streams have none, memory
-- runs out, or a file can't be opened or read, which is so only if that may be: nothing.
abbrev pub InferLeaves : (files : List ℕ → File) (names : List (List ℕ)) → Result InferOutcome EngineFault
    → (old new : Option (List ℕ)) → Type 0
InferLeaves files names (Ok Written) old new = Writes (λ text. Infers files names (Ok text)) Whole old new
InferLeaves files names (Ok (Refused place notice)) old new = IsRefusedFor files names notice.items × Keeps old new
InferLeaves files names (Err Memory) old new = Keeps old new
InferLeaves files names (Err Read) old new = MayBeUnread (map files names) (map files names) × Keeps old new
InferLeaves files names (Err Write) old new = WritesUpTo (λ text. Infers files names (Ok text)) old new
InferLeaves files names _ old new = ⊥

-- the exit status, and what is reported
abbrev pub infer_report : Result InferOutcome EngineFault → ℕ × List ℕ
infer_report (Ok Written) = (0, [])
infer_report (Ok (Refused place notice)) = (1, notice.items)
infer_report (Err fault) = (status_of_failure (failure_view fault), line_of_failure (failure_view fault))

-- A run that infers a document of streams in the files of these names came to some end, by which this is left on the
-- output and on the errors.
pub record EndsInferred (files : List ℕ → File) (names : List (List ℕ)) (status : ℕ)
    (old new errors_old errors_new : Option (List ℕ)) : Type 0 where
  pub ending : Result InferOutcome EngineFault
  pub is_status : status ≡ (infer_report ending).0
  pub output : InferLeaves files names ending old new
  pub errors : WritesUpTo (λ text. text ≡ (infer_report ending).1) errors_old errors_new
