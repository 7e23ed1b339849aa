-- What is written of a test of recorded runs, some after others.
use Rattle.std.proofs.Common.{◌≡◌, ◌+◌, Bor, ℕ, List, [], ◌++◌, drop, length, take, true, Option, refl, sym, ap, subst, ◌∙◌, append_assoc, append-nil}
use Rattle.std.specs.Prelude.{◌||◌, Bool, IfErr, IsErrAnd, Result, false, is_some}
use Rattle.std.specs.List.{AllZip}
use Rattle.std.proofs.lemmas.List.{drop-map, map-append}
use Rattle.def_format.specs.Documents.{Options}
use Rattle.app_arguments.specs.Formats.{Format, Json}
use Rattle.app_arguments.specs.Statuses.{File}
use Rattle.app_arguments.specs.Views.{format_view, names_view}
use Rattle.app_arguments.specs.declared.request.Test.{Test}
use Rattle.app_test.specs.TestedRuns.{AddsReports, AreRecords, AreTested, EndsTest, IsConcluded, LeavesMore, TestsMore, lists_failing, wanted_by}
use Rattle.app_test.specs.Tests.{IsRunIn, TestLeaves, is_json, test_ending}
use Rattle.app_test.specs.declared.records.Records.{Records}
use Rattle.app_test.proofs.WrittenTests.{LeavesPart, broken_by, cut_more, ended, more_left, none_tested, tested_on}
use Rattle.judge_results.specs.ResultsSoFar.{AreResults, AreTexts}
use Rattle.judge_results.specs.declared.results.Texts.{Texts}
use Rattle.judge_results.specs.declared.results.Wanted.{Wanted}
use Rattle.judge_runs.specs.Runs.{Run}
use Rattle.judge_runs.specs.Tallies.{AreCounts, Stands}
use Rattle.judge_runs.specs.Wishes.{Condition}
use Rattle.judge_runs.specs.declared.conclusion.Conclusion.{Conclusion}
use Rattle.judge_runs.specs.declared.tally.Counts.{Counts}
use Rattle.judge_session.specs.declared.fault.EngineFault.{EngineFault}
use Rattle.app_results.specs.ResultFiles.{AreRecordsOf, IsJsonOfRuns, IsJunitOfRuns}
use Rattle.app_results.specs.RunReports.{IsReportOf}
use Rattle.serde_json.specs.Data.{Data}

-- the folders after some of the next ones
pub names_next : (all lent some : List (Bor (List ℕ))) (from : ℕ) → lent ≡ all
    → some ++ drop (from + length some) lent ≡ drop from lent
    → names_view some ++ drop (from + length some) (names_view all) ≡ drop from (names_view all)
names_next all lent some from same next =
    subst (λ (found : List (Bor (List ℕ))).
    names_view some ++ drop (from + length some) (names_view found) ≡ drop from (names_view found)) same
    (ap (λ (l : List (List ℕ)). names_view some ++ l) (drop-map (λ (n : Bor (List ℕ)). n.now) (from + length some) lent)
    ∙ (sym (map-append (λ (n : Bor (List ℕ)). n.now) some (drop (from + length some) lent))
    ∙ (ap names_view next ∙ sym (drop-map (λ (n : Bor (List ℕ)). n.now) from lent))))

-- The runs in these folders are tested, but for the last ones.
pub record IsTestedTo (files : List ℕ → File) (options : Options) (wishes : List Condition) (format : Format)
    (wanted : Wanted) (folders rest : List (List ℕ)) (records : Records) (old new : Option (List ℕ)) : Type 0 where
  pub done : List (List ℕ)
  pub go_on : done ++ rest ≡ folders
  pub tested : AreTested files options wishes format (IsReportOf files options) wanted done records old new

module _ (files : List ℕ → File) (options : Options) (wishes : List Condition) (format : Format) (wanted : Wanted)
    (folders : List (List ℕ)) (old : Option (List ℕ)) where
  -- none is
  pub begun : (records : Records) → AreRecords wanted wishes [] [] records
      → IsTestedTo files options wishes format wanted folders folders records old old
  begun records stands = record {
    done = [];
    go_on = refl;
    tested = none_tested files options wishes format (IsReportOf files options) wanted records old stands;
  }

  module _ (rest some others : List (List ℕ)) (both : some ++ others ≡ rest) (records : Records)
      (middle : Option (List ℕ)) where
    -- some more are, and have their reports
    pub gone_on : (is_wanted : Bool) (after last : Records) (failing : List (List ℕ)) (new : Option (List ℕ))
        → (wanted.json ≡ true → is_wanted ≡ true)
        → IsTestedTo files options wishes format wanted folders rest records old middle
        → TestsMore files options wishes format is_wanted some records after failing middle new
        → last ≡ record { tally = after.tally; results = last.results }
        → AddsReports (IsReportOf files options) wanted.json failing after.results last.results
        → IsTestedTo files options wishes format wanted folders others last old new
    gone_on is_wanted after last failing new listed all more same adds = record {
      done = all.done ++ some;
      go_on = append_assoc all.done some others ∙ (ap (λ l. all.done ++ l) both ∙ all.go_on);
      tested = tested_on files options wishes format (IsReportOf files options) wanted all.done some records old middle
          new is_wanted after last failing listed all.tested more same adds;
    }

    -- the test ends in the lines of some more
    pub cut_off : (new : Option (List ℕ))
        → IsTestedTo files options wishes format wanted folders rest records old middle
        → LeavesMore files options wishes format some middle new → (result : Result Conclusion EngineFault)
        (fault : EngineFault) → IsErrAnd result (λ (e : EngineFault). e ≡ fault) → EndsTest fault
        → TestLeaves files options wishes format (IsReportOf files options) folders (test_ending result) old new
    cut_off new all cut result fault is ends =
        broken_by files options wishes format (IsReportOf files options) folders old new result fault is ends
        (subst (λ (fs : List (List ℕ)). (count : ℕ)
        × LeavesPart files options wishes format (IsReportOf files options) (take count fs) old new)
        (ap (λ l. all.done ++ l) both ∙ all.go_on)
        (cut_more files options wishes format (IsReportOf files options) wanted all.done some others records old middle
        new all.tested cut))

    -- the test ends after the lines of some more
    pub left_off : (is_wanted : Bool) (after : Records) (failing : List (List ℕ)) (new : Option (List ℕ))
        → IsTestedTo files options wishes format wanted folders rest records old middle
        → TestsMore files options wishes format is_wanted some records after failing middle new
        → (result : Result Conclusion EngineFault) (fault : EngineFault)
        → IsErrAnd result (λ (e : EngineFault). e ≡ fault) → EndsTest fault
        → TestLeaves files options wishes format (IsReportOf files options) folders (test_ending result) old new
    left_off is_wanted after failing new all more =
        cut_off new all
        (more_left files options wishes format is_wanted some records after failing middle new more)

  -- all runs are tested
  module _ (rest : List (List ℕ)) (none : rest ≡ []) (records : Records) (middle : Option (List ℕ))
      (all : IsTestedTo files options wishes format wanted folders rest records old middle) where
    all_done : all.done ≡ folders
    all_done = sym (append-nil all.done) ∙ (ap (λ l. all.done ++ l) (sym none) ∙ all.go_on)

    pub records_of_all : AreRecordsOf files options wishes wanted folders records
    records_of_all = record {
      runs = all.tested.runs;
      are_runs = subst (λ (fs : List (List ℕ)). AllZip (IsRunIn files options wishes) fs all.tested.runs) all_done
          all.tested.are_runs;
      reports = all.tested.reports;
      are_reports = all.tested.are_reports;
      stand = all.tested.stands;
    }

    pub all_ended : (new : Option (List ℕ)) (orders : Option ℕ) (result : Result Conclusion EngineFault)
        → (format ≡ Json → wanted.json ≡ true)
        → ((runs : List Run) (reports : List Data) → AreRecords wanted wishes runs reports records
        → IsConcluded format wishes runs reports orders result middle new)
        → IfErr result EndsTest
        → TestLeaves files options wishes format (IsReportOf files options) folders (test_ending result) old new
    all_ended new orders result of_json go ends =
        subst (λ (fs : List (List ℕ)).
        TestLeaves files options wishes format (IsReportOf files options) fs (test_ending result) old new) all_done
        (ended files options wishes format (IsReportOf files options) all.done old new wanted records middle all.tested
        of_json orders result (go all.tested.runs all.tested.reports all.tested.stands) ends)

-- ---- the results of all runs

module _ (files : List ℕ → File) (options : Options) (wishes : List Condition) (wanted : Wanted)
    (folders : List (List ℕ)) (records : Records) (counts : Counts) (orders : Option ℕ) (texts : Texts)
    (are_counts : (asked : List Condition) (runs : List Run) → Stands asked runs records.tally
    → AreCounts asked runs counts)
    (are_texts : (some : Wanted) (asked : List Condition) (runs : List Run) (reports : List Data)
    → AreResults some asked runs reports records.results → AreCounts asked runs counts
    → AreTexts some asked runs reports orders texts) where
  pub texts_of : (runs : List Run) (reports : List Data) → AreRecords wanted wishes runs reports records
      → AreTexts wanted wishes runs reports orders texts
  texts_of runs reports are = are_texts wanted wishes runs reports are.results (are_counts wishes runs are.tally)

  pub json_of_all : AreRecordsOf files options wishes wanted folders records → wanted.json ≡ true
      → IsJsonOfRuns files options wishes folders texts.json.items
  json_of_all all is = (
    orders,
    record {
      runs = all.runs;
      are_runs = all.are_runs;
      is_text = (all.reports, all.are_reports is, (texts_of all.runs all.reports all.stand).json is);
    },
  )

  pub junit_of_all : AreRecordsOf files options wishes wanted folders records → wanted.junit ≡ true
      → IsJunitOfRuns files options wishes folders texts.junit.items
  junit_of_all all is = record {
    runs = all.runs;
    are_runs = all.are_runs;
    is_text = (texts_of all.runs all.reports all.stand).junit is;
  }

-- ---- what is wanted

either : (a b : Bool) → b ≡ true → (a || b) ≡ true
either true b h = refl
either false b h = h

-- the JSON text is wanted for its file
pub of_file : (test : Test) → is_some test.json ≡ true → (wanted_by test).json ≡ true
of_file test is = rw is refl

-- or for the output
pub of_output : (test : Test) → format_view test.format ≡ Json → (wanted_by test).json ≡ true
of_output test is = either (is_some test.json) (is_json (format_view test.format)) (ap is_json is)

-- then the folders of runs that fail are listed
pub of_reports : (test : Test) → (wanted_by test).json ≡ true → lists_failing test ≡ true
of_reports test is = either (is_some test.pages) (wanted_by test).json is
