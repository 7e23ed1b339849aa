-- What the JSON text of a report has to do with the report's own text, and runs with a path.
use Rattle.std.specs.Prelude.{◌≡◌, ◌≢◌, ◌<◌, ℕ, List, [], ◌∷◌, codes, flat_map, replicate, Some}
use Rattle.std.specs.List.{AllByRecursion}
use Rattle.serde_json.specs.Data.{string}
use Rattle.serde_json.specs.Find.{get}
use Rattle.def_format.specs.Names.{ProcessNames}
use Rattle.def_format.specs.Reports.{Report, IsLawful, report_text}
use Rattle.out_json.specs.JsonReports.{Places, Run, json_at, json_text_at, runs}

-- the field `report` has the report's text
abbrev pub HasReportText : Type 0
HasReportText = (names : List ProcessNames) (places : Places) (report : Report)
    → get (codes "report") (json_at names places report) ≡ Some (string (report_text report))

-- The JSON text of a lawful report determines the report's text, whatever the processes are called, and whatever is
-- known of its cuts.
abbrev pub JsonDeterminesText : Type 0
JsonDeterminesText =
    (names others : List ProcessNames) (places elsewhere : Places) (report other : Report)
    → IsLawful report → IsLawful other
    → json_text_at names places report ≡ json_text_at others elsewhere other → report_text report ≡ report_text other

-- The text of a lawful report determines its JSON text, with what is known of its cuts.
abbrev pub TextDeterminesJson : Type 0
TextDeterminesJson =
    (names : List ProcessNames) (places : Places) (report other : Report) → IsLawful report → IsLawful other
    → report_text report ≡ report_text other → json_text_at names places report ≡ json_text_at names places other

-- ---- runs

-- a run's events, each by the name of its process
abbrev pub run_events : Run → List (List ℕ)
run_events run = replicate run.count run.name

-- no two runs that follow one another are of one process
abbrev pub AreApart : List Run → Type 0
AreApart [] = Unit {0}
AreApart (run ∷ []) = Unit {0}
AreApart (run ∷ next ∷ others) = (run.name ≢ next.name) × AreApart (next ∷ others)

-- The runs of a path give back its events. No run is empty, and each is as long as it can be.
abbrev pub RunsAreThePath : Type 0
RunsAreThePath = (path : List (List ℕ)) → flat_map run_events (runs path) ≡ path

abbrev pub RunsAreLongest : Type 0
RunsAreLongest = (path : List (List ℕ)) → AllByRecursion (λ (run : Run). 0 < run.count) (runs path)
    × AreApart (runs path)
