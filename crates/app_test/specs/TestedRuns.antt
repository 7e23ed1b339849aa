-- What is written of runs that were tested so far.
use Rattle.std.specs.Prelude.{◌≡◌, ◌⊎◌, ◌||◌, ℕ, Bool, true, List, [], ◌∷◌, ◌++◌, is_some, take, Option, Result, Ok, Err}
use Rattle.std.specs.List.{AllZip}
use Rattle.std.specs.Io.KnownBytes.{Appends}
use Rattle.def_format.specs.Documents.{Options}
use Rattle.app_arguments.specs.Formats.{Format, Plain, Json}
use Rattle.app_arguments.specs.Statuses.{File}
use Rattle.app_arguments.specs.Views.{format_view}
use Rattle.app_arguments.specs.declared.request.Test.{Test}
use Rattle.judge_results.specs.Results.{results_json}
use Rattle.judge_results.specs.ResultsSoFar.{AreResults}
use Rattle.judge_results.specs.declared.results.Results.{Results}
use Rattle.judge_results.specs.declared.results.Wanted.{Wanted}
use Rattle.judge_runs.specs.Runs.{Run, conclusion}
use Rattle.judge_runs.specs.Tallies.{Stands, lines_text, summary_text}
use Rattle.judge_runs.specs.Views.{conclusion_view}
use Rattle.judge_runs.specs.Wishes.{Condition}
use Rattle.judge_runs.specs.declared.conclusion.Conclusion.{Conclusion}
use Rattle.judge_runs.specs.declared.outcome.Outcome as outcomes
use Rattle.judge_session.specs.declared.fault.EngineFault.{EngineFault}
use Rattle.judge_session.specs.declared.fault.EngineFault.TheVariants.{Memory, Write}
use Rattle.app_test.specs.Jobs.{run_of}
use Rattle.app_test.specs.Tests.{IsRunIn, failing_in, is_json, orders_text}
use Rattle.app_test.specs.declared.records.Records.{Records}
use Rattle.serde_json.specs.Data.{Data}

-- a fault that ends a test
abbrev pub EndsTest : EngineFault → Type 0
EndsTest fault = (fault ≡ Memory) ⊎ (fault ≡ Write)

-- ---- what is kept of runs

-- the texts of results that a test has to have: the JSON text for its file or the output, the XML for its file
abbrev pub wanted_by : Test → Wanted
wanted_by test =
    record { json = is_some test.json || is_json (format_view test.format); junit = is_some test.junit }

-- whether the folders of runs that fail are listed: pages are made of them, or the reports of a JSON text
abbrev pub lists_failing : Test → Bool
lists_failing test = is_some test.pages || (wanted_by test).json

-- the records stand for these runs, with the results of them that are wanted, and these reports
pub record AreRecords (wanted : Wanted) (wishes : List Condition) (runs : List Run) (reports : List Data)
    (records : Records) : Type 0 where
  pub tally : Stands wishes runs records.tally
  pub results : AreResults wanted wishes runs reports records.results

-- Of each of these failing runs, in their order, a report is added to the results, if reports are wanted: of each this
-- is said with the run's name.
pub record AddsReports (IsReport : (name : List ℕ) → Data → Type 0) (is_wanted : Bool) (failing : List (List ℕ))
    (before after : Results) : Type 0 where
  pub reports : List Data
  pub are_reports : is_wanted ≡ true → AllZip IsReport failing reports
  pub added : (wanted : Wanted) (wishes : List Condition) (runs : List Run) (earlier : List Data)
      → AreResults wanted wishes runs earlier before → AreResults wanted wishes runs (earlier ++ reports) after

-- ---- the lines of some runs

-- what is written of runs before the end, in this format: their lines, or nothing before one object
abbrev pub lines_in : Format → List Condition → List Run → List ℕ
lines_in Plain wishes runs = lines_text wishes runs
lines_in Json wishes runs = []

-- what is written at the end of runs with this number of orders, and as JSON with these reports
abbrev pub end_in : Format → List Condition → List Run → (reports : List Data) (orders : Option ℕ) → List ℕ
end_in Plain wishes runs reports orders = summary_text wishes runs ++ orders_text orders
end_in Json wishes runs reports orders = results_json wishes runs reports orders

-- What is due of these runs before the end is written, records stand for them too, and the folders of those that fail
-- are added, if that is wanted.
pub record WritesRuns (format : Format) (wishes : List Condition) (is_wanted : Bool) (runs : List Run)
    (before after : Records) (failing_before failing_after : List (List ℕ)) (old new : Option (List ℕ)) : Type 0 where
  pub stands : (wanted : Wanted) (earlier : List Run) (reports : List Data)
      → AreRecords wanted wishes earlier reports before → AreRecords wanted wishes (earlier ++ runs) reports after
  pub written : Appends old new (lines_in format wishes runs)
  pub failing : is_wanted ≡ true → failing_after ≡ failing_before ++ failing_in wishes runs

-- the same of the run in this folder by its result, which is known
abbrev pub WritesResult : (format : Format) (wishes : List Condition) (is_wanted : Bool) (folder : List ℕ)
    → Result outcomes.Outcome EngineFault → (before after : Records) (failing_before failing_after : List (List ℕ))
    (old new : Option (List ℕ)) → Type 0
WritesResult format wishes is_wanted folder (Ok outcome) before after failing_before failing_after old new =
    WritesRuns format wishes is_wanted (run_of folder outcome ∷ []) before after failing_before failing_after old new
WritesResult format wishes is_wanted folder (Err fault) before after failing_before failing_after old new = ⊥

-- a prefix of what is due of these runs before the end is written
abbrev pub LeavesRuns : (format : Format) (wishes : List Condition) (runs : List Run) (old new : Option (List ℕ))
    → Type 0
LeavesRuns format wishes runs old new = (count : ℕ) × Appends old new (take count (lines_in format wishes runs))

-- ---- the runs in some folders

-- What is due of the runs in these folders before the end is written, records stand for them too, and these are the
-- folders of those that fail, if they are wanted.
pub record TestsMore (files : List ℕ → File) (options : Options) (wishes : List Condition) (format : Format)
    (is_wanted : Bool) (folders : List (List ℕ)) (before after : Records) (failing : List (List ℕ))
    (old new : Option (List ℕ)) : Type 0 where
  pub runs : List Run
  pub are_runs : AllZip (IsRunIn files options wishes) folders runs
  pub writes : WritesRuns format wishes is_wanted runs before after [] failing old new

-- a prefix of what is due of the first runs in these folders before the end is written
pub record LeavesMore (files : List ℕ → File) (options : Options) (wishes : List Condition) (format : Format)
    (folders : List (List ℕ)) (old new : Option (List ℕ)) : Type 0 where
  pub count : ℕ
  pub runs : List Run
  pub are_runs : AllZip (IsRunIn files options wishes) (take count folders) runs
  pub left : LeavesRuns format wishes runs old new

-- ---- all runs so far

-- What is due of the runs in these folders before the end is written, and records stand for them, with a report of each
-- that fails, in their order, if JSON is wanted: of each report this is said with the run's name.
pub record AreTested (files : List ℕ → File) (options : Options) (wishes : List Condition) (format : Format)
    (IsReport : (name : List ℕ) → Data → Type 0) (wanted : Wanted) (folders : List (List ℕ)) (records : Records)
    (old new : Option (List ℕ)) : Type 0 where
  pub runs : List Run
  pub are_runs : AllZip (IsRunIn files options wishes) folders runs
  pub reports : List Data
  pub are_reports : wanted.json ≡ true → AllZip IsReport (failing_in wishes runs) reports
  pub stands : AreRecords wanted wishes runs reports records
  pub written : Appends old new (lines_in format wishes runs)

-- What is written at the end of a test of these runs with these reports, and what they come to; or a prefix of it is.
abbrev pub IsConcluded : (format : Format) (wishes : List Condition) (runs : List Run) (reports : List Data)
    (orders : Option ℕ) → Result Conclusion EngineFault → (old new : Option (List ℕ)) → Type 0
IsConcluded format wishes runs reports orders (Ok end) old new =
    (conclusion_view end ≡ conclusion wishes runs) × Appends old new (end_in format wishes runs reports orders)
IsConcluded format wishes runs reports orders (Err fault) old new =
    (count : ℕ) × Appends old new (take count (end_in format wishes runs reports orders))
