-- What the readers of files have left, and what a call leaves that judges what was read of them.
use Rattle.std.specs.Prelude.{◌≡◌, ◌<◌, ◌⊎◌, ℕ, true, false, List, length, Option, Some, None, IfSome}
use Rattle.std.specs.Io.KnownBytes.{Keeps}
use Rattle.app_arguments.specs.Statuses.{Ending, Failed, File, MemoryFailure, ReadFailure}
use Rattle.def_format.specs.Documents.{Options, inquiry_of, outline_within}
use Rattle.def_format.specs.Limits.{document_byte_limit}
use Rattle.def_judgement.specs.Writes.{Source}

-- a file of which nothing is known
abbrev pub unknown_file : File
unknown_file = record { source = record { bytes = None; fails = None }; opens = false }

-- the bytes of the file of this name, if they are known
abbrev pub bytes_in : (files : List ℕ → File) → List ℕ → Option (List ℕ)
bytes_in files name = (files name).source.bytes

-- What is known of a file's source is so of the reader that has opened it.
pub record Knows (file left : Source) : Type 0 where
  pub bytes : IfSome file.bytes (λ bytes. left.bytes ≡ Some bytes)
  pub fails : IfSome file.fails (λ fails. left.fails ≡ Some fails)

-- with these options the documents and the refusals of the one are those of the other, however many processes there may
-- be
abbrev pub SameOutline : Options → List ℕ → List ℕ → Type 0
SameOutline options a b =
    (limit : ℕ) → outline_within limit (inquiry_of options a) ≡ outline_within limit (inquiry_of options b)

-- The bytes that were read of a document's source are all that it had left, if that is known, or both are too many; and
-- they were read to its end, unless they are too many.
pub record IsReadOf (read : List ℕ) (source : Source) : Type 0 where
  pub all : IfSome source.bytes
      (λ bytes. (read ≡ bytes) ⊎ (document_byte_limit < length read) × (document_byte_limit < length bytes))
  pub ended : source.fails ≡ Some true → document_byte_limit < length read

-- What a call leaves to which the document was handed: nothing if memory runs out, and else what P says.
abbrev pub ReadLeaves : (P : Ending → (old new : Option (List ℕ)) → Type 0) → Ending → (old new : Option (List ℕ))
    → Type 0
ReadLeaves P (Failed MemoryFailure) old new = Keeps old new
ReadLeaves P (Failed ReadFailure) old new = ⊥
ReadLeaves P ending old new = P ending old new
