-- What is written of the lines of an input, or of its bundles, and how that ends.
use Rattle.std.specs.Prelude.{◌≡◌, ◌≢◌, ◌==◌, ◌++◌, ⊤, ℕ, Bool, suc, false, if◌then◌else◌, List, [], ◌∷◌, flat_map, Option, Some, IfSome}
use Rattle.std.specs.List.{list_any}
use Rattle.def_format.specs.Documents.{Options}
use Rattle.def_judgement.specs.Writes.{IsWholeInput, Source, Whole, Writes}
use Rattle.judge_runs.specs.Wishes.{Condition}
use Rattle.app_arguments.specs.Statuses.{Alarm, Ending, Failed, MemoryFailure, Negative, ReadFailure, Success, WriteFailure, WritesUpTo}
use Rattle.app_batch.specs.Answers.{Answer, IsAnswer}
use Rattle.app_batch.specs.Entries.{entries_in, entry_said}

-- what is written of entries, the first of which has this number
abbrev pub AreAnswers : (options : Options) (fail_on : List Condition) (in_bundles : Bool) (number : ℕ)
    (entries : List (List ℕ)) → List Answer → Type 0
AreAnswers options fail_on in_bundles number [] [] = ⊤
AreAnswers options fail_on in_bundles number (entry ∷ entries) (answer ∷ answers) =
    IsAnswer options fail_on number (entry_said in_bundles number entry) answer
    × AreAnswers options fail_on in_bundles (suc number) entries answers
AreAnswers options fail_on in_bundles number _ _ = ⊥

-- the lines that are written, one after another
abbrev pub text_of_answers : List Answer → List ℕ
text_of_answers answers = flat_map (λ (answer : Answer). answer.line) answers

-- one of the answers has this status
abbrev pub has_status : ℕ → List Answer → Bool
has_status status answers = list_any (λ (answer : Answer). answer.status == status) answers

-- The end that is due: an answer to fail on was found; or none, but a session was refused, or a line held none; or
-- neither.
abbrev pub due_of_answers : List Answer → Ending
due_of_answers answers =
    if has_status 5 answers then Alarm else (if has_status 1 answers then Negative else Success)

-- the text of what is written of these entries, of which this is said
pub record IsTextOfEntries (options : Options) (fail_on : List Condition) (in_bundles : Bool)
    (IsSaid : List Answer → Type 0) (entries : List (List ℕ)) (text : List ℕ) : Type 0 where
  pub answers : List Answer
  pub are_answers : AreAnswers options fail_on in_bundles 1 entries answers
  pub said : IsSaid answers
  pub is_text : text ≡ text_of_answers answers

-- the same of all entries of an input
abbrev pub IsTextOfInput : (input : Source) (options : Options) (fail_on : List Condition) (in_bundles : Bool)
    (IsSaid : List Answer → Type 0) (text : List ℕ) → Type 0
IsTextOfInput input options fail_on in_bundles IsSaid text =
    (bytes : List ℕ) × IsWholeInput input bytes
    × IsTextOfEntries options fail_on in_bundles IsSaid (entries_in in_bundles bytes) text

-- the same of the first entries of an input
abbrev pub IsTextOfStart : (input : Source) (options : Options) (fail_on : List Condition) (in_bundles : Bool)
    (text : List ℕ) → Type 0
IsTextOfStart input options fail_on in_bundles text =
    (entries : List (List ℕ)) × IfSome input.bytes (λ bytes. (rest : List (List ℕ))
    × (entries_in in_bundles bytes ≡ entries ++ rest))
    × IsTextOfEntries options fail_on in_bundles (λ _. ⊤) entries text

-- What a batch leaves: the text of what is written of all entries. A read or a write fails, or memory runs out: that of
-- the first ones, or a prefix of it.
abbrev pub BatchLeaves : (input : Source) (options : Options) (fail_on : List Condition) (in_bundles : Bool) → Ending
    → (old new : Option (List ℕ)) → Type 0
BatchLeaves input options fail_on in_bundles (Failed ReadFailure) old new =
    (input.fails ≢ Some false) × WritesUpTo (IsTextOfStart input options fail_on in_bundles) old new
BatchLeaves input options fail_on in_bundles (Failed WriteFailure) old new =
    WritesUpTo (IsTextOfStart input options fail_on in_bundles) old new
BatchLeaves input options fail_on in_bundles (Failed MemoryFailure) old new =
    WritesUpTo (IsTextOfStart input options fail_on in_bundles) old new
BatchLeaves input options fail_on in_bundles (Failed failure) old new = ⊥
BatchLeaves input options fail_on in_bundles ending old new =
    Writes (IsTextOfInput input options fail_on in_bundles (λ answers. ending ≡ due_of_answers answers)) Whole old new
