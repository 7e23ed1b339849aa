-- The reports of runs that fail, one after another.
use Rattle.std.proofs.Common.{◌≡◌, ℕ, suc, ◌+◌, ◌<◌, Bor, List, [], ◌∷◌, ◌++◌, Bool, length, take, true, false, inl, inr, refl, sym, ap, subst, ◌∙◌, append_assoc, append-nil, arith}
use Rattle.std.specs.List.{AllZip, slice_index_or}
use Rattle.std.specs.Prelude.{◌⊎◌, not}
use Rattle.std.proofs.Math.Seq.{take-suc}
use Rattle.std.proofs.lemmas.List.{map-append}
use Rattle.app_arguments.specs.Statuses.{File}
use Rattle.app_arguments.specs.Views.{names_view}
use Rattle.app_explore.specs.Explorations.{AskedObject}
use Rattle.app_results.specs.RunPages.{IsMadeOfRun}
use Rattle.app_results.specs.RunReports.{IsLineOf, IsReportOf, IsReportText}
use Rattle.app_test.specs.TestedRuns.{AddsReports}
use Rattle.def_format.specs.Documents.{Options}
use Rattle.judge_results.specs.Results.{report_data}
use Rattle.judge_results.specs.ResultsSoFar.{AreResults}
use Rattle.judge_results.specs.declared.results.Results.{Results}
use Rattle.judge_results.specs.declared.results.Wanted.{Wanted}
use Rattle.judge_runs.specs.Runs.{Run}
use Rattle.judge_runs.specs.Wishes.{Condition}
use Rattle.serde_json.specs.Data.{Data, null}
use Rattle.serde_json.specs.Written.{compact_text}
use Rattle.def_format.specs.Lines.{line_feed}

-- ---- of one run

module _ (files : List ℕ → File) (options : Options) (name : List ℕ) where
  -- the text of the object is that of a report
  pub object_report : (text : List ℕ) → IsMadeOfRun files options AskedObject name text
      → (report : Data) × IsLineOf report text → IsReportText files options name text
  object_report text made line = (line.0, line.1, inr made)

  -- and so is that of null
  pub null_report : (text : List ℕ) → IsLineOf null text → IsReportText files options name text
  null_report text line = (null, line, inl refl)

  pub report_added : (text : List ℕ) → IsReportText files options name text → (old new : Results)
      → ((wanted : Wanted) (wishes : List Condition) (runs : List Run) (reports : List Data) (report : Data)
      → AreResults wanted wishes runs reports old → IsLineOf report text
      → AreResults wanted wishes runs (reports ++ report_data name report ∷ []) new)
      → AddsReports (IsReportOf files options) true (name ∷ []) old new
  report_added text is old new add = record {
    reports = report_data name is.0 ∷ [];
    are_reports = λ _. ((is.0, refl, made is.2), tt);
    added = λ wanted wishes runs earlier are. add wanted wishes runs earlier is.0 are is.1;
  }
    where
      made : (is.0 ≡ null) ⊎ IsMadeOfRun files options AskedObject name text
          → (is.0 ≡ null) ⊎ IsMadeOfRun files options AskedObject name (compact_text is.0 ++ line_feed ∷ [])
      made (inl none) = inl none
      made (inr object) = inr (subst (IsMadeOfRun files options AskedObject name) is.1 object)

-- ---- of more runs

-- two lists of which R holds place by place, one after the other
zip_append : {A B : Type 0} (R : A → B → Type 0) (xs : List A) (ys : List B) (more : List A) (others : List B)
    → AllZip R xs ys → AllZip R more others → AllZip R (xs ++ more) (ys ++ others)
zip_append R [] [] more others some rest = rest
zip_append R [] (y ∷ ys) more others some rest = absurd some
zip_append R (x ∷ xs) [] more others some rest = absurd some
zip_append R (x ∷ xs) (y ∷ ys) more others some rest = (some.0, zip_append R xs ys more others some.1 rest)

-- a test that isn't met
pub not_met : (test : Bool) → not test ≡ true → test ≡ false
not_met true is = absurd (cc)
not_met false is = refl

-- a test that is met
pub met : (test : Bool) → not test ≡ false → test ≡ true
met true is = refl
met false is = absurd (cc)

module _ (IsReport : List ℕ → Data → Type 0) where
  pub none_added : (results : Results) → AddsReports IsReport true [] results results
  none_added results = record {
    reports = [];
    are_reports = λ _. tt;
    added = λ wanted wishes runs earlier are.
        subst (λ (all : List Data). AreResults wanted wishes runs all results) (sym (append-nil earlier)) are;
  }

  -- none is wanted
  pub unwanted : (is_wanted : Bool) (names : List (List ℕ)) (results : Results) → is_wanted ≡ false
      → AddsReports IsReport is_wanted names results results
  unwanted is_wanted names results not = record {
    reports = [];
    are_reports = λ is. absurd (cc);
    added = λ wanted wishes runs earlier are.
        subst (λ (all : List Data). AreResults wanted wishes runs all results) (sym (append-nil earlier)) are;
  }

  more_added : (names more : List (List ℕ)) (old middle new : Results) → AddsReports IsReport true names old middle
      → AddsReports IsReport true more middle new → AddsReports IsReport true (names ++ more) old new
  more_added names more old middle new some others = record {
    reports = some.reports ++ others.reports;
    are_reports = λ is.
        zip_append IsReport names some.reports more others.reports (some.are_reports is) (others.are_reports is);
    added = λ wanted wishes runs earlier are.
        subst (λ (all : List Data). AreResults wanted wishes runs all new)
        (append_assoc earlier some.reports others.reports)
        (others.added wanted wishes runs (earlier ++ some.reports) (some.added wanted wishes runs earlier are));
  }

  -- one more
  pub next_added : (names : List (Bor (List ℕ))) (i : ℕ) (d : Bor (List ℕ)) → i < length names
      → (old middle new : Results) → AddsReports IsReport true (names_view (take i names)) old middle
      → AddsReports IsReport true ((slice_index_or names i d).now ∷ []) middle new
      → AddsReports IsReport true (names_view (take (i + 1) names)) old new
  next_added names i d lt old middle new some one =
      subst (λ (all : List (List ℕ)). AddsReports IsReport true all old new)
      (sym (ap (λ n. names_view (take n names)) (let next : i + 1 ≡ suc i = omega arith in next)
      ∙ (ap names_view (take-suc names i d lt)
      ∙ map-append (λ (name : Bor (List ℕ)). name.now) (take i names) (slice_index_or names i d ∷ []))))
      (more_added (names_view (take i names)) ((slice_index_or names i d).now ∷ []) old middle new some one)
