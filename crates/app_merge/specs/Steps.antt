-- The lines that are summed up so far.
use Rattle.std.specs.Prelude.{◌≡◌, ◌+◌, ℕ, List, length, Result, Ok, Err}
use Rattle.def_judgement.specs.Writes.{Source}
use Rattle.read_lines.specs.GivenLines.{HasLines, State}
use Rattle.judge_summary.specs.Summaries.{Summary}
use Rattle.judge_summary.specs.declared.fault.LineFault.{LineFault}
use Rattle.app_merge.specs.Merges.{IsFaultyAt, IsSummaryOf, line_notice, summary_of}
use Rattle.app_merge.specs.Views.{wrong_view}
use Rattle.app_merge.specs.declared.input_lines.Step.{Step}
use Rattle.app_merge.specs.declared.input_lines.Step.TheVariants.{Added, End, Faulty}
use Rattle.app_merge.specs.declared.outcome.LineWrong.{LineWrong}
use Rattle.app_merge.specs.declared.outcome.MergeOutcome.{MergeOutcome}
use Rattle.app_merge.specs.declared.outcome.MergeOutcome.TheVariants.{Refused, Written}

-- The lines that an input gave so far have this summary, and the next one has this number.
pub record IsSoFar (input : Source) (state : State) (summary : Summary) (number : ℕ) : Type 0 where
  pub lines : List (List ℕ)
  pub has_lines : HasLines input lines state
  pub is_due : summary_of lines ≡ Ok summary
  pub numbered : number ≡ length lines + 1

-- the next line was added, or there was none, or it is at fault
abbrev pub StepGives : Step → (input : Source) → State → Summary → (number : ℕ) → Type 0
StepGives Added input state summary number = IsSoFar input state summary (number + 1)
StepGives End input state summary number = IsSummaryOf input summary
StepGives (Faulty wrong) input state summary number = IsFaultyAt input number (wrong_view wrong)

-- the summary of all lines, or the first one at fault
abbrev pub IsFound : (input : Source) → Result Summary (ℕ × LineWrong) → Type 0
IsFound input (Ok summary) = IsSummaryOf input summary
IsFound input (Err at) = IsFaultyAt input at.0 (wrong_view at.1)

-- the outcome says that the line of this number has this fault
abbrev pub IsRefusal : (number : ℕ) → LineFault → MergeOutcome → Type 0
IsRefusal number fault (Written conclusion) = ⊥
IsRefusal number fault (Refused line wrong notice) =
    (line ≡ number) × (wrong_view wrong ≡ fault) × (notice.items ≡ line_notice number fault)
