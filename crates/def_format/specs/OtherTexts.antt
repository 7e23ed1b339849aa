-- The texts of a snapshot and of a check.
use Rattle.std.specs.Prelude.{ℕ, suc, Bool, cond, List, [], ◌∷◌, flat_map, codes, decimal, Option, Some, None, option_map, option_and_then, unwrap_or, slice_get}
use Rattle.def_format.specs.Names.{ProcessNames}
use Rattle.def_format.specs.Readings.{StreamState, Fresh, Joined, HasEnded, Faulted}
use Rattle.def_format.specs.Histories.{Row}
use Rattle.def_format.specs.Reports.{spaced, text_of_lines, Possibly, Definitely}

-- ---- snapshots

abbrev pub state_word : StreamState → List ℕ
state_word Fresh = codes "fresh"
state_word Joined = codes "joined"
state_word HasEnded = codes "ended"
state_word Faulted = codes "faulted"

-- the process's name, and `-` for none and for one that the document doesn't have
abbrev pub name_or_dash : List ProcessNames → Option ℕ → List ℕ
name_or_dash names process =
    unwrap_or (option_map (λ (entry : ProcessNames). entry.name) (option_and_then (λ p. slice_get names p) process))
    (codes "-")

abbrev pub row_line : List ProcessNames → ℕ → Row → List ℕ
row_line names stream row =
    spaced (codes "stream" ∷ decimal stream ∷ codes "process" ∷ name_or_dash names row.process ∷ codes "events"
    ∷ decimal row.events ∷ state_word row.state ∷ [])

-- a line for each row, whose streams are counted from this one on
abbrev pub row_lines : List ProcessNames → ℕ → List Row → List (List ℕ)
row_lines names stream [] = []
row_lines names stream (row ∷ others) = row_line names stream row ∷ row_lines names (suc stream) others

abbrev pub snapshot_text : List ProcessNames → List Row → List ℕ
snapshot_text names rows = text_of_lines (row_lines names 1 rows)

-- ---- checks

-- how one answer's evidence was found
pub data Verdict : Type 0 where
  Good : Verdict
  Bad : Verdict
  Unchecked : Verdict

abbrev pub verdict_word : Verdict → List ℕ
verdict_word Good = codes "good"
verdict_word Bad = codes "bad"
verdict_word Unchecked = codes "unchecked"

abbrev pub by_test : Bool → Verdict
by_test good = cond good Good Bad

-- the verdicts on the answers for one predicate
pub record Checked : Type 0 where
  pub name : List ℕ
  pub possibly : Verdict
  pub definitely : Verdict

-- What a check finds: the report isn't read, from this line on; the session is refused or the report is a refusal; or
-- the session's numbers are right or not, and the names are wrong or each answer has its verdicts.
pub data Finding : Type 0 where
  NotRead : (line : ℕ) → Finding
  OfRefusal : (good : Bool) → Finding
  OfSession : (good : Bool) (answers : Option (List Checked)) → Finding

abbrev pub checked_lines : Checked → List (List ℕ)
checked_lines checked =
    spaced (checked.name ∷ codes "possibly" ∷ verdict_word checked.possibly ∷ [])
    ∷ spaced (checked.name ∷ codes "definitely" ∷ verdict_word checked.definitely ∷ [])
    ∷ []

abbrev pub answers_lines : Option (List Checked) → List (List ℕ)
answers_lines None = codes "names bad" ∷ []
answers_lines (Some answers) = flat_map checked_lines answers

abbrev pub finding_lines : Finding → List (List ℕ)
finding_lines (NotRead line) = spaced (codes "report" ∷ codes "line" ∷ decimal line ∷ []) ∷ []
finding_lines (OfRefusal good) = spaced (codes "refused" ∷ verdict_word (by_test good) ∷ []) ∷ []
finding_lines (OfSession good answers) = spaced (codes "session" ∷ verdict_word (by_test good) ∷ [])
    ∷ answers_lines answers

abbrev pub check_text : Finding → List ℕ
check_text finding = text_of_lines (finding_lines finding)

-- how an answer's evidence is judged: by whether its cut satisfies, or its path avoids; other answers have no evidence
abbrev pub possibly_verdict : (List ℕ → Bool) → Possibly → Verdict
possibly_verdict satisfies (Possibly.Yes counts) = by_test (satisfies counts)
possibly_verdict satisfies Possibly.No = Unchecked
possibly_verdict satisfies (Possibly.Unknown level) = Unchecked

abbrev pub definitely_verdict : (List (List ℕ) → Bool) → Definitely → Verdict
definitely_verdict avoids (Definitely.Yes level) = Unchecked
definitely_verdict avoids (Definitely.No path) = by_test (avoids path)
definitely_verdict avoids (Definitely.Unknown level) = Unchecked
