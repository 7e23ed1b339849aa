-- What a run that merges lines leaves on its output and on its errors, by its input.
use Rattle.std.specs.Prelude.{◌≡◌, ℕ, suc, nat_le, if◌then◌else◌, List, [], ◌∷◌, ◌++◌, codes, decimal, length, Option, IfSome, Result, Ok, Err, IsOk}
use Rattle.std.specs.Io.KnownBytes.{Keeps}
use Rattle.app_arguments.specs.Statuses.{WritesUpTo, line_of_failure, status_of_failure}
use Rattle.app_host.specs.Faults.{failure_view}
use Rattle.def_format.specs.Lines.{all_lines, ended_lines}
use Rattle.def_judgement.specs.Writes.{FailsAfter, IsWholeInput, Source, Whole, Writes}
use Rattle.read_lines.specs.GivenLines.{session_line_limit}
use Rattle.judge_session.specs.declared.fault.EngineFault.{EngineFault}
use Rattle.judge_session.specs.declared.fault.EngineFault.TheVariants.{Memory, Read, Write}
use Rattle.judge_summary.specs.Conclusions.{conclusion_of}
use Rattle.judge_summary.specs.Summaries.{Summary, after_line, no_summary, summary_text}
use Rattle.judge_summary.specs.declared.conclusion.Conclusion.{Conclusion}
use Rattle.judge_summary.specs.declared.conclusion.Conclusion.TheVariants.{AllPass, SomeFails, SomeNotJudged}
use Rattle.judge_summary.specs.declared.fault.LineFault.{LineFault}
use Rattle.judge_summary.specs.declared.fault.LineFault.TheVariants as faults
use Rattle.app_merge.specs.Views.{wrong_view}
use Rattle.app_merge.specs.declared.outcome.MergeOutcome.{MergeOutcome}
use Rattle.app_merge.specs.declared.outcome.MergeOutcome.TheVariants.{Refused, Written}

-- ---- what the lines say

-- the summary after a line; one that is too long is no answer and no summary
abbrev pub after_given : Summary → List ℕ → Result Summary LineFault
after_given summary line =
    if nat_le (length line) session_line_limit then after_line summary line else Err faults.Shape

-- what comes of the lines that follow one of this number, by what comes of that one
abbrev pub goes_on : (number : ℕ) → (Summary → Result Summary (ℕ × LineFault)) → Result Summary LineFault
    → Result Summary (ℕ × LineFault)
goes_on number following (Ok summary) = following summary
goes_on number following (Err fault) = Err (number, fault)

-- the summary after lines, of which the first has this number; or the first one at fault, by its number
abbrev pub after_lines : Summary → ℕ → List (List ℕ) → Result Summary (ℕ × LineFault)
after_lines summary number [] = Ok summary
after_lines summary number (line ∷ lines) =
    goes_on number (λ next. after_lines next (suc number) lines) (after_given summary line)

-- the summary of lines
abbrev pub summary_of : List (List ℕ) → Result Summary (ℕ × LineFault)
summary_of lines = after_lines no_summary 1 lines

-- the summary of all lines of an input
pub record IsSummaryOf (input : Source) (summary : Summary) : Type 0 where
  pub bytes : List ℕ
  pub is_given : IsWholeInput input bytes
  pub is_due : summary_of (all_lines bytes) ≡ Ok summary

-- the line of this number is the first of the input that is at fault
abbrev pub IsFaultyAt : (input : Source) (number : ℕ) → LineFault → Type 0
IsFaultyAt input number fault = IfSome input.bytes (λ bytes. summary_of (all_lines bytes) ≡ Err (number, fault))

-- a read failed of an input whose lines before were not at fault
abbrev pub IsUnread : (input : Source) → Type 0
IsUnread input = FailsAfter input (λ bytes. IsOk (summary_of (ended_lines bytes)))

-- ---- what is left

-- the text of the summary of an input's lines, of runs that come to this
pub record IsMergedText (input : Source) (conclusion : Conclusion) (text : List ℕ) : Type 0 where
  pub summary : Summary
  pub is_due : IsSummaryOf input summary
  pub comes : conclusion ≡ conclusion_of summary
  pub is_text : text ≡ summary_text summary

-- the text of the summary of an input's lines
pub record IsSomeMergedText (input : Source) (text : List ℕ) : Type 0 where
  pub summary : Summary
  pub is_due : IsSummaryOf input summary
  pub is_text : text ≡ summary_text summary

abbrev pub wrong_words : LineFault → List ℕ
wrong_words faults.Shape = codes " is no answer and no summary\n"
wrong_words faults.Overflow = codes " has a sum over 18446744073709551615\n"
wrong_words faults.Memory = []

-- the line that reports that the line of this number is at fault
abbrev pub line_notice : (number : ℕ) → LineFault → List ℕ
line_notice number fault = codes "monitor: line " ++ decimal number ++ wrong_words fault

-- The summary is written: its whole text. The output fails: that text or a prefix of it. A line is at fault, memory
-- runs out, or the input can't be read: nothing.
abbrev pub MergeLeaves : (input : Source) → Result MergeOutcome EngineFault → (old new : Option (List ℕ)) → Type 0
MergeLeaves input (Ok (Written conclusion)) old new = Writes (IsMergedText input conclusion) Whole old new
MergeLeaves input (Ok (Refused number wrong notice)) old new =
    IsFaultyAt input number (wrong_view wrong) × (notice.items ≡ line_notice number (wrong_view wrong)) × Keeps old new
MergeLeaves input (Err Memory) old new = Keeps old new
MergeLeaves input (Err Read) old new = IsUnread input × Keeps old new
MergeLeaves input (Err Write) old new = WritesUpTo (IsSomeMergedText input) old new
MergeLeaves input _ old new = ⊥

-- ---- the exit status, and what is reported

abbrev pub conclusion_status : Conclusion → ℕ
conclusion_status AllPass = 0
conclusion_status SomeFails = 5
conclusion_status SomeNotJudged = 1

abbrev pub merge_report : Result MergeOutcome EngineFault → ℕ × List ℕ
merge_report (Ok (Written conclusion)) = (conclusion_status conclusion, [])
merge_report (Ok (Refused number wrong notice)) = (1, notice.items)
merge_report (Err fault) = (status_of_failure (failure_view fault), line_of_failure (failure_view fault))

-- A run that merges the lines of its input came to some end, by which this is left on the output and on the errors.
pub record EndsMerged (input : Source) (status : ℕ) (old new errors_old errors_new : Option (List ℕ)) : Type 0 where
  pub ending : Result MergeOutcome EngineFault
  pub is_status : status ≡ (merge_report ending).0
  pub output : MergeLeaves input ending old new
  pub errors : WritesUpTo (λ text. text ≡ (merge_report ending).1) errors_old errors_new
