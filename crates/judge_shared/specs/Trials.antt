-- Runs that are judged beside others, up to what comes of them.
use Rattle.std.specs.Prelude.{⊤, ◌≡◌, ℕ, List, Result, Ok, Err}
use Rattle.def_format.specs.Documents.{Document, Inquiry, Options, inquiry_of}
use Rattle.def_format.specs.Reports.{Report}
use Rattle.def_format.specs.Sessions.{StreamResult}
use Rattle.judge_runs.specs.Runs as runs
use Rattle.judge_runs.specs.Runs.{Reported}
use Rattle.judge_runs.specs.Views.{outcome_view}
use Rattle.judge_runs.specs.declared.outcome.Outcome.{Outcome}
use Rattle.judge_session.specs.declared.fault.EngineFault.{EngineFault}
use Rattle.def_judgement.specs.Writes.{Source}
use Rattle.judge_shared.specs.SharedReports.{IsRunReportOfInputs}
use Rattle.judge_shared.specs.Sharing.{IsFound, IsRunReportOfResults}
use Rattle.judge_shared.specs.declared.found.Found.{Found}
use Rattle.judge_shared.specs.declared.trial.Trial.{Trial}
use Rattle.judge_shared.specs.declared.trial.Trial.TheVariants as trials

-- what was found is found of some run
abbrev pub IsTrial : Options → Trial → Type 0
IsTrial options (trials.Known outcome) = ⊤
IsTrial options (trials.Judged bytes found) =
    (document : Document) × (streams : ℕ) × (outcomes : List StreamResult)
    × IsFound options bytes.items document streams outcomes found

-- This comes of it: what is known already, or a report of each run of which that was found.
abbrev pub IsFinal : Options → Trial → Outcome → Type 0
IsFinal options (trials.Known known) outcome = outcome ≡ known
IsFinal options (trials.Judged bytes found) outcome =
    (document : Document) (streams : ℕ) (outcomes : List StreamResult)
    → IsFound options bytes.items document streams outcomes found
    → (report : Report) × (outcome_view outcome ≡ Reported report)
    × IsRunReportOfResults document streams outcomes report

-- An outcome of which this holds comes of it: of what is known already, and of each report of what was found.
abbrev pub GivesOutcome : Options → (IsOutcome : runs.Outcome → Type 0) → Trial → Type 0
GivesOutcome options IsOutcome (trials.Known known) = IsOutcome (outcome_view known)
GivesOutcome options IsOutcome (trials.Judged bytes found) =
    (document : Document) × (streams : ℕ) × (outcomes : List StreamResult)
    × IsFound options bytes.items document streams outcomes found
    × ((report : Report) → IsRunReportOfResults document streams outcomes report → IsOutcome (Reported report))

-- ---- of streams

-- It is found of a run, of which each report is one of the inquiry and of the streams that these sources gave.
abbrev pub IsFoundOfInputs : Options → (bytes : List ℕ) → (inputs : List Source) → Found → Type 0
IsFoundOfInputs options bytes inputs found =
    (document : Document) × (streams : ℕ) × (outcomes : List StreamResult)
    × IsFound options bytes document streams outcomes found
    × ((report : Report) → IsRunReportOfResults document streams outcomes report
    → IsRunReportOfInputs (inquiry_of options bytes) inputs report)

-- the outcome is the report of an inquiry and of the streams that these sources gave
abbrev pub IsReportedOf : Inquiry → (inputs : List Source) → runs.Outcome → Type 0
IsReportedOf inquiry inputs outcome =
    (report : Report) × (outcome ≡ Reported report) × IsRunReportOfInputs inquiry inputs report

-- ---- of results

abbrev pub IsTrialResult : Options → Result Trial EngineFault → Type 0
IsTrialResult options (Ok trial) = IsTrial options trial
IsTrialResult options (Err fault) = ⊤

abbrev pub IsFinalResult : Options → Result Trial EngineFault → Result Outcome EngineFault → Type 0
IsFinalResult options (Ok trial) (Ok outcome) = IsFinal options trial outcome
IsFinalResult options (Err fault) (Err other) = other ≡ fault
IsFinalResult options _ _ = ⊥
