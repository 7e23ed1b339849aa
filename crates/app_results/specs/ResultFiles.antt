-- The files of results of recorded runs.
use Rattle.std.specs.Prelude.{◌≡◌, true, ℕ, List, Option}
use Rattle.std.specs.List.{AllZip}
use Rattle.def_format.specs.Documents.{Options}
use Rattle.app_arguments.specs.Formats.{Json}
use Rattle.app_arguments.specs.Statuses.{File}
use Rattle.app_test.specs.TestedRuns.{AreRecords}
use Rattle.app_test.specs.Tests.{IsRunIn, IsTextOf, failing_in}
use Rattle.app_test.specs.declared.records.Records.{Records}
use Rattle.judge_results.specs.Results.{junit_text}
use Rattle.judge_results.specs.declared.results.Wanted.{Wanted}
use Rattle.judge_runs.specs.Runs.{Run}
use Rattle.judge_runs.specs.Wishes.{Condition}
use Rattle.serde_json.specs.Data.{Data}
use Rattle.app_results.specs.RunReports.{IsReportOf}

-- The text is made in this way of the runs in these folders, with what comes of each.
pub record IsTextOfRuns (files : List ℕ → File) (options : Options) (wishes : List Condition)
    (folders : List (List ℕ)) (IsText : List Run → (text : List ℕ) → Type 0) (text : List ℕ) : Type 0 where
  pub runs : List Run
  pub are_runs : AllZip (IsRunIn files options wishes) folders runs
  pub is_text : IsText runs text

-- It is the JSON text of these runs, with the reports of those that fail and the number of their orders.
abbrev pub IsJsonOfRuns : (files : List ℕ → File) (options : Options) (wishes : List Condition)
    (folders : List (List ℕ)) (text : List ℕ) → Type 0
IsJsonOfRuns files options wishes folders text =
    (orders : Option ℕ) × IsTextOfRuns files options wishes folders
    (λ runs other. IsTextOf Json (IsReportOf files options) wishes runs orders other) text

-- It is the XML of JUnit of these runs.
abbrev pub IsJunitOfRuns : (files : List ℕ → File) (options : Options) (wishes : List Condition)
    (folders : List (List ℕ)) (text : List ℕ) → Type 0
IsJunitOfRuns files options wishes folders text =
    IsTextOfRuns files options wishes folders (λ runs other. other ≡ junit_text wishes runs) text

-- The records stand for the runs in these folders, with what comes of each, and have a report of each that fails, in
-- their order, if JSON is wanted.
pub record AreRecordsOf (files : List ℕ → File) (options : Options) (wishes : List Condition) (wanted : Wanted)
    (folders : List (List ℕ)) (records : Records) : Type 0 where
  pub runs : List Run
  pub are_runs : AllZip (IsRunIn files options wishes) folders runs
  pub reports : List Data
  pub are_reports : wanted.json ≡ true → AllZip (IsReportOf files options) (failing_in wishes runs) reports
  pub stand : AreRecords wanted wishes runs reports records
