-- How far a batch has come between two rounds, and what a round makes of its entries.
use Rattle.std.specs.Prelude.{◌≡◌, ◌+◌, ◌++◌, [], ◌≤◌, ℕ, suc, Bool, true, List, length, take, Option, Result, Ok, Err, Some, slice_get}
use Rattle.std.specs.List.{AllZip}
use Rattle.std.specs.Io.KnownBytes.{Appends}
use Rattle.def_format.specs.Documents.{Options}
use Rattle.def_judgement.specs.Writes.{Source}
use Rattle.judge_runs.specs.Wishes.{Condition}
use Rattle.judge_session.specs.declared.fault.EngineFault.{EngineFault}
use Rattle.app_batch.specs.Answers.{Answer, IsAnswer}
use Rattle.app_batch.specs.Batches.{AreAnswers, has_status, text_of_answers}
use Rattle.app_batch.specs.Entries.{HasEntries, IsEntry, entry_said}
use Rattle.app_batch.specs.Views.{answer_view}
use Rattle.app_batch.specs.declared.answer.Answer as made
use Rattle.app_batch.specs.declared.found.Found.{Found}
use Rattle.read_lines.specs.GivenLines.{State}
use Rattle.read_lines.specs.declared.line.Line.{Line}

-- whether one of the answers has status 5, and whether one has 1
pub record IsFoundIn (answers : List Answer) (found : Found) : Type 0 where
  pub alarm : found.alarm ≡ has_status 5 answers
  pub refusal : found.refusal ≡ has_status 1 answers

-- an answer was made
abbrev pub IsMade : Result made.Answer EngineFault → Answer → Type 0
IsMade (Ok answer) due = answer_view answer ≡ due
IsMade (Err fault) due = ⊥

-- These results are for the entries of a round, of which the first has this number.
pub record AreResults (options : Options) (fail_on : List Condition) (in_bundles : Bool) (first : ℕ)
    (round : List Line) (results : List (Result made.Answer EngineFault)) : Type 0 where
  pub one_each : length results ≡ length round
  pub right : (place : ℕ) (line : Line) (answer : made.Answer) → slice_get round place ≡ Some line
      → slice_get results place ≡ Some (Ok answer) → (bytes : List ℕ) → IsEntry in_bundles line bytes
      → IsAnswer options fail_on (first + place) (entry_said in_bundles (first + place) bytes) (answer_view answer)

-- A round has these entries, which follow on those that were given before; one without an entry comes at the end.
pub record IsRound (in_bundles : Bool) (round : List Line) (input : Source) (before : List (List ℕ)) (state : State) :
    Type 0 where
  pub entries : List (List ℕ)
  pub are_entries : AllZip (IsEntry in_bundles) round entries
  pub has_entries : HasEntries in_bundles input (before ++ entries) state
  pub at_end : round ≡ [] → state.ended ≡ true

-- What is written of the entries of a round, which follow on this many, and what is found with them too.
pub record IsRoundWritten (options : Options) (fail_on : List Condition) (in_bundles : Bool) (number : ℕ)
    (found : Found) (round : List Line) (all : ℕ) (found_then : Found) (old new : Option (List ℕ)) : Type 0 where
  pub answers : List Answer
  pub are_answers : (entries : List (List ℕ)) → AllZip (IsEntry in_bundles) round entries
      → AreAnswers options fail_on in_bundles (suc number) entries answers
  pub counted : all ≡ number + length round
  pub is_found : (before : List Answer) → IsFoundIn before found → IsFoundIn (before ++ answers) found_then
  pub written : Appends old new (text_of_answers answers)

-- A prefix of what is written of the entries of a round, or all of it.
pub record IsRoundCut (options : Options) (fail_on : List Condition) (in_bundles : Bool) (number : ℕ)
    (round : List Line) (old new : Option (List ℕ)) : Type 0 where
  pub answers : List Answer
  pub are_answers : (entries : List (List ℕ)) → AllZip (IsEntry in_bundles) round entries
      → AreAnswers options fail_on in_bundles (suc number) entries answers
  pub count : ℕ
  pub within : count ≤ length (text_of_answers answers)
  pub written : Appends old new (take count (text_of_answers answers))

-- All entries that the input gave so far are answered, and this many they are; what is found in the answers, and that
-- they are written.
pub record HasAnswered (input : Source) (options : Options) (fail_on : List Condition) (in_bundles : Bool)
    (lines : State) (number : ℕ) (found : Found) (old new : Option (List ℕ)) : Type 0 where
  pub given : List (List ℕ)
  pub has_entries : HasEntries in_bundles input given lines
  pub counted : number ≡ length given
  pub answers : List Answer
  pub are_answers : AreAnswers options fail_on in_bundles 1 given answers
  pub is_found : IsFoundIn answers found
  pub written : Appends old new (text_of_answers answers)
