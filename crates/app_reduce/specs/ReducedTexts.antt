-- The texts that a run writes which reduces a recorded run, by its document and its streams.
use Rattle.std.specs.Prelude.{◌≡◌, ◌⊎◌, ◌++◌, ℕ, List, codes, decimal, length}
use Rattle.std.specs.List.{AllZip}
use Rattle.def_model.specs.Cuts.{total}
use Rattle.def_model.specs.Messages.{HasMessages}
use Rattle.def_model.specs.Predicates.{Recorded}
use Rattle.def_format.specs.Documents.{Document, Inquiry}
use Rattle.def_format.specs.Reports.{Refusal, Refused, report_text}
use Rattle.def_judgement.specs.Writes.{IsWholeInput, Source}
use Rattle.def_recordings.specs.Recordings.{IsRefusedRun, IsRun}
use Rattle.def_recordings.specs.Reductions.{IsReducedSession}

-- ---- the streams

-- the streams of these sources are read, each to its end, and P holds of them
abbrev pub OfStreams : List Source → (P : List (List ℕ) → Type 0) → Type 0
OfStreams sources P = (streams : List (List ℕ)) × AllZip IsWholeInput sources streams × P streams

-- ---- the lines

-- the line that says, after this word, how many processes, events and messages there are
abbrev pub counts_line : (word : List ℕ) → (processes events messages : ℕ) → List ℕ
counts_line word processes events messages =
    word ++ codes " " ++ decimal processes ++ codes " processes " ++ decimal events ++ codes " events "
    ++ decimal messages ++ codes " messages\n"

-- the line of a run of a document
pub record IsRunLine (inquiry : Inquiry) (streams : List (List ℕ)) (document : Document) (recorded : Recorded)
    (line : List ℕ) : Type 0 where
  pub is_run : IsRun inquiry streams document recorded
  pub messages : ℕ
  pub has_messages : HasMessages recorded.events messages
  pub is_line : line ≡ counts_line (codes "run") (length document.names) (total recorded.events) messages

-- the line of a session that has the answers of a run
pub record IsSessionLine (document : Document) (recorded : Recorded) (line : List ℕ) : Type 0 where
  pub bytes : List ℕ
  pub streams : List (List ℕ)
  pub is_reduced : IsReducedSession document recorded bytes streams
  pub messages : ℕ
  pub has_messages : HasMessages is_reduced.image.events messages
  pub is_line : line
      ≡ counts_line (codes "session") (length is_reduced.places) (total is_reduced.image.events) messages

-- ---- the texts

-- the line of the run, and that of a session that has its answers
pub record IsReducedText (inquiry : Inquiry) (streams : List (List ℕ)) (text : List ℕ) : Type 0 where
  pub document : Document
  pub recorded : Recorded
  pub first : List ℕ
  pub second : List ℕ
  pub is_first : IsRunLine inquiry streams document recorded first
  pub is_second : IsSessionLine document recorded second
  pub is_text : text ≡ first ++ second

-- the line of the run, and one that says that no session is made
pub record IsUnmadeText (inquiry : Inquiry) (streams : List (List ℕ)) (text : List ℕ) : Type 0 where
  pub document : Document
  pub recorded : Recorded
  pub first : List ℕ
  pub is_first : IsRunLine inquiry streams document recorded first
  pub is_text : text ≡ first ++ codes "no session\n"

-- the text of the report by which the run is refused
pub record IsRefusedText (inquiry : Inquiry) (streams : List (List ℕ)) (text : List ℕ) : Type 0 where
  pub refusal : Refusal
  pub is_refused : IsRefusedRun inquiry streams refusal
  pub is_text : text ≡ report_text (Refused refusal)

-- what is written if no session is made: the run is refused by its document, whatever its streams are, or by these, or
-- no session can be made of it
abbrev pub IsNegativeText : Inquiry → List Source → (text : List ℕ) → Type 0
IsNegativeText inquiry sources text =
    ((streams : List (List ℕ)) → IsRefusedText inquiry streams text)
    ⊎ OfStreams sources (λ streams. IsRefusedText inquiry streams text)
    ⊎ OfStreams sources (λ streams. IsUnmadeText inquiry streams text)

-- what is written if a session is made
abbrev pub IsPositiveText : Inquiry → List Source → (text : List ℕ) → Type 0
IsPositiveText inquiry sources text = OfStreams sources (λ streams. IsReducedText inquiry streams text)
