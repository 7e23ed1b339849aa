-- The reports of recorded runs that fail, as JSON.
use Rattle.std.specs.Prelude.{◌≡◌, ◌⊎◌, ℕ, List, [], ◌∷◌, ◌++◌}
use Rattle.serde_json.specs.Data.{Data, null}
use Rattle.serde_json.specs.Written.{compact_text}
use Rattle.def_format.specs.Documents.{Options}
use Rattle.def_format.specs.Lines.{line_feed}
use Rattle.app_arguments.specs.Statuses.{File}
use Rattle.app_explore.specs.Explorations.{AskedObject}
use Rattle.judge_results.specs.Results.{report_data}
use Rattle.app_results.specs.RunPages.{IsMadeOfRun}

-- the text is the line of this value
abbrev pub IsLineOf : (report : Data) (text : List ℕ) → Type 0
IsLineOf report text = text ≡ compact_text report ++ line_feed ∷ []

-- The text is the line of the report of the run of this name: of the object that `judge` writes of it, or of null.
abbrev pub IsReportText : (files : List ℕ → File) (options : Options) (name text : List ℕ) → Type 0
IsReportText files options name text =
    (report : Data) × IsLineOf report text × ((report ≡ null) ⊎ IsMadeOfRun files options AskedObject name text)

-- The report of the run of this name, as JSON: the object that `judge` writes of it; or null, if its files can't be
-- read once more.
abbrev pub IsReportOf : (files : List ℕ → File) (options : Options) (name : List ℕ) → Data → Type 0
IsReportOf files options name value =
    (report : Data) × (value ≡ report_data name report)
    × ((report ≡ null) ⊎ IsMadeOfRun files options AskedObject name (compact_text report ++ line_feed ∷ []))
