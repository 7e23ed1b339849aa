-- Results of one more run, or with one more report, and the texts of all.
use Rattle.std.proofs.Common.{◌≡◌, List, [], ◌∷◌, ◌++◌, ℕ, true, false, map, refl, sym, ap, ◌∙◌, append-nil, Option}
use Rattle.std.specs.Prelude.{flat_map}
use Rattle.std.proofs.lemmas.List.{map-append}
use Rattle.std.proofs.lemmas.List.Concat.{flat_map-append}
use Rattle.serde_json.specs.Data.{Data, array, no_members, object}
use Rattle.serde_json.specs.View.{items_of, view}
use Rattle.serde_json.specs.Written.{compact_text, has_float, items_have_float}
use Rattle.def_format.specs.Lines.{line_feed}
use Rattle.judge_runs.specs.Runs.{Run, conclusion}
use Rattle.judge_runs.specs.Tallies.{AreCounts}
use Rattle.judge_runs.specs.Wishes.{Condition}
use Rattle.judge_runs.specs.declared.tally.Counts.{Counts}
use Rattle.judge_results.specs.Results.{case_text, counts_data, first_fields, junit_by, junit_head, object_data, orders_data, results_data, results_json, run_data}
use Rattle.judge_results.specs.ResultsSoFar.{AreResults, AreTexts, joined_text, listed}
use Rattle.judge_results.specs.declared.results.Results.{Results}
use Rattle.judge_results.specs.declared.results.Texts.{Texts}
use Rattle.judge_results.specs.declared.results.Wanted.{Wanted}
use Rattle.judge_results.proofs.Joined.{joined_is}
use Rattle.judge_results.proofs.Whole.{head_whole, runs_whole}

module _ (wanted : Wanted) (wishes : List Condition) where
  -- one more run
  pub one_added : (before : List Run) (run : Run) (reports : List Data) (old new : Results) → new.wanted ≡ old.wanted
      → new.reports.items ≡ old.reports.items
      → (old.wanted.json ≡ true → map view new.values.items ≡ map view old.values.items ++ run_data wishes run ∷ [])
      → (old.wanted.junit ≡ true → new.cases.items ≡ old.cases.items ++ case_text wishes run)
      → AreResults wanted wishes before reports old → AreResults wanted wishes (before ++ run ∷ []) reports new
  one_added before run reports old new kept others value case are = record {
    is_wanted = kept ∙ are.is_wanted;
    reports_so_far = others ∙ are.reports_so_far;
    json = λ is.
        value (ap (λ (w : Wanted). w.json) are.is_wanted ∙ is)
        ∙ (ap (λ (l : List Data). l ++ run_data wishes run ∷ []) (are.json is)
        ∙ sym (map-append (run_data wishes) before (run ∷ [])));
    junit = λ is.
        case (ap (λ (w : Wanted). w.junit) are.is_wanted ∙ is)
        ∙ (ap (λ (l : List ℕ). l ++ case_text wishes run) (are.junit is)
        ∙ sym (flat_map-append (case_text wishes) before (run ∷ [])
        ∙ ap (λ (l : List ℕ). flat_map (case_text wishes) before ++ l) (append-nil (case_text wishes run))));
  }

  -- one more report
  pub report_added : (runs : List Run) (reports : List Data) (report : Data) (old new : Results)
      → new ≡ record { wanted = old.wanted; values = old.values; cases = old.cases; reports = new.reports }
      → new.reports.items ≡ old.reports.items ++ 44 ∷ compact_text report
      → AreResults wanted wishes runs reports old → AreResults wanted wishes runs (reports ++ report ∷ []) new
  report_added runs reports report old new same added are = record {
    is_wanted = ap (λ (r : Results). r.wanted) same ∙ are.is_wanted;
    reports_so_far = added
        ∙ (ap (λ (l : List ℕ). l ++ 44 ∷ compact_text report) are.reports_so_far
        ∙ sym (flat_map-append (λ (value : Data). 44 ∷ compact_text value) reports (report ∷ [])
        ∙ ap (λ (l : List ℕ). listed reports ++ 44 ∷ l) (append-nil (compact_text report))));
    json = λ is. ap (λ (r : Results). map view r.values.items) same ∙ are.json is;
    junit = λ is. ap (λ (r : Results). r.cases.items) same ∙ are.junit is;
  }

  -- the texts of all
  pub all_texts : (runs : List Run) (reports : List Data) (results : Results) (texts : Texts) (counts : Counts)
      (orders : Option ℕ)
      → (results.wanted.json ≡ true → (asked : List Condition) (all : List Run) (datas : List Data)
      → AreCounts asked all counts → map view results.values.items ≡ map (run_data asked) all
      → results.reports.items ≡ listed datas → texts.json.items ≡ results_json asked all datas orders)
      → (results.wanted.junit ≡ true
      → texts.junit.items ≡ junit_by (junit_head counts.all counts.fail counts.not_judged) results.cases.items)
      → AreResults wanted wishes runs reports results → AreCounts wishes runs counts
      → AreTexts wanted wishes runs reports orders texts
  all_texts runs reports results texts counts orders json junit are count = record {
    json = λ is.
        json (ap (λ (w : Wanted). w.json) are.is_wanted ∙ is) wishes runs reports count (are.json is)
        are.reports_so_far;
    junit = λ is.
        junit (ap (λ (w : Wanted). w.junit) are.is_wanted ∙ is)
        ∙ (ap (junit_by (junit_head counts.all counts.fail counts.not_judged)) (are.junit is)
        ∙ ap (λ (head : List ℕ). junit_by head (flat_map (case_text wishes) runs)) (rw (
          count.all,
          count.fail,
          count.not_judged,
        ) refl));
  }

-- the object of runs, by their numbers and values
object_is : (wishes : List Condition) (runs : List Run) (counts : Counts) (orders : Option ℕ)
    (reports values : List Data) → AreCounts wishes runs counts → values ≡ map (run_data wishes) runs
    → object_data (counts_data counts.all counts.fail counts.not_judged counts.pass) (orders_data orders)
    (conclusion wishes runs) reports values
    ≡ results_data wishes runs reports orders
object_is wishes runs counts orders reports values are same =
    rw (are.all, are.fail, are.not_judged, are.pass, same) refl

-- the parts that are written are the JSON text
pub json_is : (wishes : List Condition) (runs : List Run) (counts : Counts) (orders : Option ℕ)
    (reports values : List Data) (value : Data) (head texts numbers text : List ℕ) → AreCounts wishes runs counts
    → values ≡ map (run_data wishes) runs → texts ≡ listed reports
    → value ≡ object (first_fields (counts_data counts.all counts.fail counts.not_judged counts.pass)
    (orders_data orders) (conclusion wishes runs) no_members)
    → (has_float value ≡ false → head ≡ compact_text value)
    → (items_have_float (items_of values) ≡ false → numbers ≡ compact_text (array (items_of values)))
    → text ≡ joined_text head texts numbers → text ≡ results_json wishes runs reports orders
unfolding results_json
json_is wishes runs counts orders reports values value head texts numbers text are same listed made of_head of_runs is =
    is
    ∙ joined_is (counts_data counts.all counts.fail counts.not_judged counts.pass) (orders_data orders)
    (conclusion wishes runs) reports values head texts numbers
    (of_head (ap has_float made
    ∙ head_whole counts.all counts.fail counts.not_judged counts.pass orders (conclusion wishes runs))
    ∙ ap compact_text made)
    listed
    (of_runs (ap (λ (l : List Data). items_have_float (items_of l)) same ∙ runs_whole wishes runs))
    ∙ ap (λ (value : Data). compact_text value ++ line_feed ∷ [])
    (object_is wishes runs counts orders reports values are same)
