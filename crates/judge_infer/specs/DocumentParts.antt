-- The text of the first document part by part, and the fault of streams that have none.
use Rattle.std.specs.Prelude.{ℕ, Bool, true, false, nat_lt, if◌then◌else◌, List, [], ◌∷◌, ◌++◌, length, map, flat_map, codes, position, slice_index_or, Option, Some, None, Result, Ok, Err}
use Rattle.std.specs.Str.{bytes_eq}
use Rattle.def_format.specs.Documents.{has_twice}
use Rattle.def_format.specs.Limits.{process_limit}
use Rattle.judge_infer.specs.FirstDocuments.{list_text}
use Rattle.judge_infer.specs.Streams.{Process}

-- ---- the text

-- a variable with the initial value 0
abbrev pub var_text : List ℕ → List ℕ
var_text var = codes "\"" ++ var ++ codes "\":0"

unfoldable pub vars_text : List (List ℕ) → List ℕ
vars_text vars = list_text (codes ",") (map var_text vars)

unfoldable pub process_text : Process → List ℕ
process_text process =
    codes "{\"name\":\"" ++ process.name ++ codes "\",\"vars\":{" ++ vars_text process.vars ++ codes "}}"

unfoldable pub processes_text : List Process → List ℕ
processes_text processes = list_text (codes ",\n  ") (map process_text processes)

-- some message is received more than once in all
abbrev pub is_copied : List Process → Bool
is_copied processes = has_twice (flat_map (λ (process : Process). process.received) processes)

-- the field of version 2, if a message is received more than once
abbrev pub version_text : Bool → List ℕ
version_text true = codes ",\n \"version\":2"
version_text false = []

-- the field of the predicates: one that never holds
abbrev pub predicates_text : List ℕ
predicates_text = codes "\"predicates\":[\n  {\"name\":\"replace_this\",\"text\":\"false\"}]"

unfoldable pub first_document : List Process → List ℕ
first_document processes =
    codes "{\"processes\":[\n  " ++ processes_text processes ++ codes "],\n " ++ predicates_text
    ++ version_text (is_copied processes) ++ codes "}\n"

-- ---- streams without a document

pub data Fault : Type 0 where
  -- there is no stream
  NoStream : Fault
  -- there are more than a document may have processes
  TooMany : Fault
  -- the streams at these places, from 0, are of one process
  SameProcess : ℕ → ℕ → Fault

-- what stands for it in the line that reports it, if these are the names of the streams' files
abbrev pub fault_words : (files : List (List ℕ)) → Fault → List ℕ
fault_words files NoStream = codes "there is no stream"
fault_words files TooMany = codes "there are more than 16 streams"
fault_words files (SameProcess first second) =
    slice_index_or files second [] ++ codes ": it is of the same process as " ++ slice_index_or files first []

abbrev pub earlier_or : Option ℕ → ℕ → Option (ℕ × ℕ) → Option (ℕ × ℕ)
earlier_or None place later = later
earlier_or (Some first) place later = Some (first, place)

-- The first of these names that an earlier one is too, by the place of that one and its own. Before them stand others.
abbrev pub again_after : List (List ℕ) → List (List ℕ) → Option (ℕ × ℕ)
again_after before [] = None
again_after before (name ∷ names) =
    earlier_or (position (λ other. bytes_eq other name) before) (length before)
    (again_after (before ++ name ∷ []) names)

abbrev pub names_of : List Process → List (List ℕ)
names_of processes = map (λ (process : Process). process.name) processes

abbrev pub unless_same : List Process → Option (ℕ × ℕ) → Result (List ℕ) Fault
unless_same processes (Some places) = Err (SameProcess places.0 places.1)
unless_same [] None = Err NoStream
unless_same processes None =
    if nat_lt process_limit (length processes) then Err TooMany else Ok (first_document processes)

-- the document of streams that say this, or why there is none
abbrev pub document_of : List Process → Result (List ℕ) Fault
document_of processes = unless_same processes (again_after [] (names_of processes))

-- with the words for the fault
abbrev pub worded_document : (files : List (List ℕ)) → Result (List ℕ) Fault → Result (List ℕ) (List ℕ)
worded_document files (Ok text) = Ok text
worded_document files (Err fault) = Err (fault_words files fault)
