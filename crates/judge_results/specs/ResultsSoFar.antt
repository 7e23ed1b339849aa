-- What results stand for, and their texts.
use Rattle.std.specs.Ffi.{without_last}
use Rattle.std.specs.Prelude.{◌≡◌, ◌∷◌, ◌++◌, true, ℕ, List, codes, drop, flat_map, map, Option}
use Rattle.serde_json.specs.Data.{Data}
use Rattle.serde_json.specs.View.{view}
use Rattle.serde_json.specs.Written.{compact_text}
use Rattle.judge_runs.specs.Runs.{Run}
use Rattle.judge_runs.specs.Wishes.{Condition}
use Rattle.judge_results.specs.Results.{case_text, junit_text, results_json, run_data}
use Rattle.judge_results.specs.declared.results.Results.{Results}
use Rattle.judge_results.specs.declared.results.Texts.{Texts}
use Rattle.judge_results.specs.declared.results.Wanted.{Wanted}

-- the text of each value, after a comma
abbrev pub listed : List Data → List ℕ
listed datas = flat_map (λ value. 44 ∷ compact_text value) datas

-- The JSON text by the text of an object of the first fields, the reports, each after a comma, and the text of the
-- runs.
unfoldable pub joined_text : (head reports runs : List ℕ) → List ℕ
joined_text head reports runs =
    without_last head ++ codes ",\"reports\":[" ++ drop 1 reports ++ codes "],\"runs\":" ++ runs ++ codes "}\n"

-- Of these runs they have the values, if JSON is wanted, and the test cases, if the XML of JUnit is; and they have
-- these reports, each as `report_data`.
pub record AreResults (wanted : Wanted) (wishes : List Condition) (runs : List Run) (reports : List Data)
    (results : Results) : Type 0 where
  pub is_wanted : results.wanted ≡ wanted
  pub reports_so_far : results.reports.items ≡ listed reports
  pub json : wanted.json ≡ true → map view results.values.items ≡ map (run_data wishes) runs
  pub junit : wanted.junit ≡ true → results.cases.items ≡ flat_map (case_text wishes) runs

-- these are the texts of the runs' results that are wanted, with these reports and this number of orders
pub record AreTexts (wanted : Wanted) (wishes : List Condition) (runs : List Run) (reports : List Data)
    (orders : Option ℕ) (texts : Texts) : Type 0 where
  pub json : wanted.json ≡ true → texts.json.items ≡ results_json wishes runs reports orders
  pub junit : wanted.junit ≡ true → texts.junit.items ≡ junit_text wishes runs
