-- What is written of a test, some runs after others.
use Rattle.std.proofs.Common.{◌≡◌, ℕ, zero, suc, true, ◌+◌, List, [], ◌∷◌, ◌++◌, length, take, Option, None, Ok, Err, refl, sym, ap, subst, ◌∙◌, append_assoc, inl, inr, arith}
use Rattle.std.specs.Prelude.{⊤, Bool, IfErr, IsErr, IsErrAnd, Result, min}
use Rattle.std.specs.List.{AllZip}
use Rattle.std.specs.Io.KnownBytes.{Appends}
use Rattle.std.proofs.KnownBytes.{Appends-nil}
use Rattle.std.proofs.lemmas.List.{take-append-le, take_all, take_min}
use Rattle.def_format.specs.Documents.{Options}
use Rattle.def_judgement.specs.Writes.{Whole, Writes}
use Rattle.app_arguments.specs.Formats.{Format, Plain, Json}
use Rattle.app_arguments.specs.Statuses.{File, WritesUpTo}
use Rattle.app_host.proofs.FilesRead.{up_to_weaker}
use Rattle.app_host.proofs.WrittenSoFar.{appends_on, up_to}
use Rattle.judge_results.specs.declared.results.Wanted.{Wanted}
use Rattle.judge_runs.specs.Runs.{Run}
use Rattle.judge_runs.specs.Tallies.{Stands, lines_text, summary_text}
use Rattle.judge_runs.specs.Wishes.{Condition}
use Rattle.judge_runs.specs.declared.conclusion.Conclusion.{Conclusion}
use Rattle.judge_runs.specs.declared.conclusion.Conclusion.TheVariants.{AllPass, SomeFails, SomeNotJudged}
use Rattle.judge_session.specs.declared.fault.EngineFault.{EngineFault}
use Rattle.judge_session.specs.declared.fault.EngineFault.TheVariants.{BundleLong, Memory, Read, Write}
use Rattle.serde_json.specs.Data.{Data}
use Rattle.app_test.specs.TestedRuns.{AddsReports, AreRecords, AreTested, EndsTest, IsConcluded, LeavesMore, LeavesRuns, TestsMore, end_in, lines_in}
use Rattle.app_test.specs.Tests.{IsRunIn, IsTestText, IsTextOf, TestLeaves, failing_in, orders_text, test_ending}
use Rattle.app_test.specs.declared.records.Records.{Records}
use Rattle.app_test.proofs.RunLines.{after_part, all_lines, cut_after as lines_cut, failing_on, lines_on, no_line, prefix_on}

-- ---- the parts of the text

-- what is due before the end, and what is due there
pub whole_text : (format : Format) (IsReport : List ℕ → Data → Type 0) (wishes : List Condition) (runs : List Run)
    (reports : List Data) (orders : Option ℕ)
    → (format ≡ Json → AllZip IsReport (failing_in wishes runs) reports)
    → IsTextOf format IsReport wishes runs orders
    (lines_in format wishes runs ++ end_in format wishes runs reports orders)
whole_text Plain IsReport wishes runs reports orders are =
    sym (append_assoc (lines_text wishes runs) (summary_text wishes runs) (orders_text orders))
whole_text Json IsReport wishes runs reports orders are = (reports, are refl, refl)

-- nothing is due of no run
none_due : (format : Format) (wishes : List Condition) → lines_in format wishes [] ≡ []
none_due Plain wishes = refl
none_due Json wishes = refl

-- ---- more runs

pub none_tested : (files : List ℕ → File) (options : Options) (wishes : List Condition) (format : Format)
    (IsReport : List ℕ → Data → Type 0) (wanted : Wanted) (records : Records) (old : Option (List ℕ))
    → AreRecords wanted wishes [] [] records
    → AreTested files options wishes format IsReport wanted [] records old old
none_tested files options wishes format IsReport wanted records old stands = record {
  runs = [];
  are_runs = tt;
  reports = [];
  are_reports = λ _. tt;
  stands = stands;
  written = subst (λ (text : List ℕ). Appends old old text) (sym (none_due format wishes)) (Appends-nil old);
}

-- two lists of which R holds place by place, one after the other
zip_append : {A B : Type 0} (R : A → B → Type 0) (xs : List A) (ys : List B) (more : List A) (others : List B)
    → AllZip R xs ys → AllZip R more others → AllZip R (xs ++ more) (ys ++ others)
zip_append R [] [] more others some rest = rest
zip_append R [] (y ∷ ys) more others some rest = absurd some
zip_append R (x ∷ xs) [] more others some rest = absurd some
zip_append R (x ∷ xs) (y ∷ ys) more others some rest = (some.0, zip_append R xs ys more others some.1 rest)

module _ (files : List ℕ → File) (options : Options) (wishes : List Condition) (format : Format)
    (IsReport : List ℕ → Data → Type 0) (wanted : Wanted) (folders more : List (List ℕ)) (records : Records)
    (old middle new : Option (List ℕ)) where
  -- the reports of more runs that fail are added to those before
  pub tested_on : (is_wanted : Bool) (after last : Records) (failing : List (List ℕ))
      → (wanted.json ≡ true → is_wanted ≡ true)
      → AreTested files options wishes format IsReport wanted folders records old middle
      → TestsMore files options wishes format is_wanted more records after failing middle new
      → last ≡ record { tally = after.tally; results = last.results }
      → AddsReports IsReport wanted.json failing after.results last.results
      → AreTested files options wishes format IsReport wanted (folders ++ more) last old new
  tested_on is_wanted after last failing listed all some same adds =
      let stands : AreRecords wanted wishes (all.runs ++ some.runs) all.reports after =
      some.writes.stands wanted all.runs all.reports all.stands in
      record {
        runs = all.runs ++ some.runs;
        are_runs = zip_append (IsRunIn files options wishes) folders all.runs more some.runs all.are_runs some.are_runs;
        reports = all.reports ++ adds.reports;
        are_reports = λ is.
            subst (λ (names : List (List ℕ)). AllZip IsReport names (all.reports ++ adds.reports))
            (sym (failing_on wishes all.runs some.runs))
            (zip_append IsReport (failing_in wishes all.runs) all.reports (failing_in wishes some.runs) adds.reports
            (all.are_reports is)
            (subst (λ (names : List (List ℕ)). AllZip IsReport names adds.reports) (some.writes.failing (listed is))
            (adds.are_reports is)));
        stands = record {
          tally = subst (λ (r : Records). Stands wishes (all.runs ++ some.runs) r.tally) (sym same) stands.tally;
          results = adds.added wanted wishes (all.runs ++ some.runs) all.reports stands.results;
        };
        written = subst (λ (text : List ℕ). Appends old new text) (sym (lines_on format wishes all.runs some.runs))
            (appends_on old middle new (lines_in format wishes all.runs) (lines_in format wishes some.runs) all.written
            some.writes.written);
      }

-- ---- the end

-- a fault before the end is written
pub nothing_concluded : (format : Format) (wishes : List Condition) (runs : List Run) (reports : List Data)
    (orders : Option ℕ) (old : Option (List ℕ)) (result : Result Conclusion EngineFault) → IsErr result
    → IsConcluded format wishes runs reports orders result old old
nothing_concluded format wishes runs reports orders old (Ok end) is = absurd (cc)
nothing_concluded format wishes runs reports orders old (Err fault) is = (0, Appends-nil old)

-- ---- a test that ends early

-- a prefix of the text of a test of the runs in these folders, or all of it
abbrev pub LeavesPart : (files : List ℕ → File) (options : Options) (wishes : List Condition) (format : Format)
    (IsReport : List ℕ → Data → Type 0) (folders : List (List ℕ)) → (old new : Option (List ℕ)) → Type 0
LeavesPart files options wishes format IsReport folders old new =
    WritesUpTo (IsTestText files options wishes format IsReport (λ _. ⊤) folders) old new

module _ (files : List ℕ → File) (options : Options) (wishes : List Condition)
    (IsReport : List ℕ → Data → Type 0) (folders : List (List ℕ)) (old new : Option (List ℕ)) where
  cut_text : (format : Format) (runs : List Run) (reports : List Data) (orders : Option ℕ) (count : ℕ)
      → AllZip (IsRunIn files options wishes) folders runs
      → (format ≡ Json → AllZip IsReport (failing_in wishes runs) reports)
      → Appends old new (take count (lines_in format wishes runs ++ end_in format wishes runs reports orders))
      → LeavesPart files options wishes format IsReport folders old new
  cut_text format runs reports orders count are are_reports written =
      let text = lines_in format wishes runs ++ end_in format wishes runs reports orders in
      up_to_weaker (λ (other : List ℕ). other ≡ text)
      (IsTestText files options wishes format IsReport (λ _. ⊤) folders) old new
      (λ other same. record {
        runs = runs;
        are_runs = are;
        said = tt;
        orders = orders;
        is_text = subst (IsTextOf format IsReport wishes runs orders) (sym same)
            (whole_text format IsReport wishes runs reports orders are_reports);
      })
      (up_to text old new count written)

-- A prefix of the lines of the runs in the first of these folders is one of the text of a test of some of them. As JSON
-- nothing is written before the end, so it is one of the text of no run.
pub cut_lines : (files : List ℕ → File) (options : Options) (wishes : List Condition) (format : Format)
    (IsReport : List ℕ → Data → Type 0) (folders : List (List ℕ)) (old new : Option (List ℕ)) (first : ℕ)
    (runs : List Run) → AllZip (IsRunIn files options wishes) (take first folders) runs
    → LeavesRuns format wishes runs old new
    → (count : ℕ) × LeavesPart files options wishes format IsReport (take count folders) old new
cut_lines files options wishes Plain IsReport folders old new first runs are left = (
  first,
  cut_text files options wishes IsReport (take first folders) old new Plain runs [] None
      (min left.0 (length (lines_text wishes runs))) are (λ is. absurd (cc))
      (subst (λ (text : List ℕ). Appends old new text)
      (sym (prefix_on (lines_text wishes runs) (end_in Plain wishes runs [] None) left.0)) left.1),
)
cut_lines files options wishes Json IsReport folders old new first runs are left = (
  0,
  cut_text files options wishes IsReport [] old new Json [] [] None 0 tt (λ _. tt)
      (subst (λ (text : List ℕ). Appends old new text) (none_taken left.0) left.1),
)
  where
    none_taken : (count : ℕ) → take count (lines_in Json wishes runs) ≡ []
    none_taken zero = refl
    none_taken (suc count) = refl

module _ (files : List ℕ → File) (options : Options) (wishes : List Condition) (format : Format)
    (IsReport : List ℕ → Data → Type 0) (folders : List (List ℕ)) (old new : Option (List ℕ)) where
  module _ (wanted : Wanted) (records : Records) (middle : Option (List ℕ))
      (all : AreTested files options wishes format IsReport wanted folders records old middle)
      (of_json : format ≡ Json → wanted.json ≡ true) (orders : Option ℕ) where
    are_reports : format ≡ Json → AllZip IsReport (failing_in wishes all.runs) all.reports
    are_reports is = all.are_reports (of_json is)

    -- in the end
    cut_end : (fault : EngineFault) → IsConcluded format wishes all.runs all.reports orders (Err fault) middle new
        → LeavesPart files options wishes format IsReport folders old new
    cut_end fault cut =
        cut_text files options wishes IsReport folders old new format all.runs all.reports orders
        (length (lines_in format wishes all.runs) + cut.0) all.are_runs are_reports
        (subst (λ (text : List ℕ). Appends old new text)
        (sym (after_part (lines_in format wishes all.runs) (end_in format wishes all.runs all.reports orders) cut.0))
        (appends_on old middle new (lines_in format wishes all.runs)
        (take cut.0 (end_in format wishes all.runs all.reports orders)) all.written cut.1))

    -- all is written
    all_written : (IsSaid : List Run → Type 0) → IsSaid all.runs
        → Appends middle new (end_in format wishes all.runs all.reports orders)
        → Writes (IsTestText files options wishes format IsReport IsSaid folders) Whole old new
    all_written IsSaid said end = (
      lines_in format wishes all.runs ++ end_in format wishes all.runs all.reports orders,
      record {
        runs = all.runs;
        are_runs = all.are_runs;
        said = said;
        orders = orders;
        is_text = whole_text format IsReport wishes all.runs all.reports orders are_reports;
      },
      appends_on old middle new (lines_in format wishes all.runs) (end_in format wishes all.runs all.reports orders)
          all.written end,
    )

    concluded : (end : Conclusion) → IsConcluded format wishes all.runs all.reports orders (Ok end) middle new
        → TestLeaves files options wishes format IsReport folders (test_ending (Ok end)) old new
    concluded AllPass done = all_written _ (sym done.0) done.1
    concluded SomeFails done = all_written _ (sym done.0) done.1
    concluded SomeNotJudged done = all_written _ (sym done.0) done.1

  -- a fault leaves a part of the text of a test of the first runs
  pub broken_off : (fault : EngineFault) → EndsTest fault → (count : ℕ)
      → LeavesPart files options wishes format IsReport (take count folders) old new
      → TestLeaves files options wishes format IsReport folders (test_ending (Err fault)) old new
  broken_off Memory ends count left = (count, left)
  broken_off Write ends count left = (count, left)
  broken_off Read (inl is) count left = absurd (cc)
  broken_off Read (inr is) count left = absurd (cc)
  broken_off BundleLong (inl is) count left = absurd (cc)
  broken_off BundleLong (inr is) count left = absurd (cc)

  pub broken_by : (result : Result Conclusion EngineFault) (fault : EngineFault)
      → IsErrAnd result (λ (e : EngineFault). e ≡ fault) → EndsTest fault
      → (count : ℕ) × LeavesPart files options wishes format IsReport (take count folders) old new
      → TestLeaves files options wishes format IsReport folders (test_ending result) old new
  broken_by (Ok end) fault is ends left = absurd is
  broken_by (Err e) fault is ends left = broken_off e (subst EndsTest (sym is) ends) left.0 left.1

  -- what is left once all runs are tested
  pub ended : (wanted : Wanted) (records : Records) (middle : Option (List ℕ))
      (all : AreTested files options wishes format IsReport wanted folders records old middle)
      → (format ≡ Json → wanted.json ≡ true) → (orders : Option ℕ) (result : Result Conclusion EngineFault)
      → IsConcluded format wishes all.runs all.reports orders result middle new → IfErr result EndsTest
      → TestLeaves files options wishes format IsReport folders (test_ending result) old new
  ended wanted records middle all of_json orders (Ok end) done ends =
      concluded wanted records middle all of_json orders end done
  ended wanted records middle all of_json orders (Err fault) done ends =
      broken_off fault ends (length folders)
      (subst (λ (some : List (List ℕ)). LeavesPart files options wishes format IsReport some old new)
      (sym (take_all (length folders) folders (omega arith)))
      (cut_end wanted records middle all of_json orders fault done))

-- ---- in the lines of the next runs

module _ (files : List ℕ → File) (options : Options) (wishes : List Condition) (format : Format)
    (IsReport : List ℕ → Data → Type 0) (wanted : Wanted) (folders more rest : List (List ℕ)) (records : Records)
    (old middle new : Option (List ℕ)) where
  -- the first folders of all
  first_folders : (count : ℕ) → take (length folders + count) (folders ++ (more ++ rest))
      ≡ folders ++ take count (more ++ rest)
  first_folders count = taken folders
    where
      taken : (some : List (List ℕ)) → take (length some + count) (some ++ (more ++ rest))
          ≡ some ++ take count (more ++ rest)
      taken [] = ap (λ n. take n (more ++ rest)) (let none : 0 + count ≡ count = omega arith in none)
      taken (folder ∷ some) =
          ap (λ n. take n (folder ∷ some ++ (more ++ rest)))
          (let next : suc (length some) + count ≡ suc (length some + count) = omega arith in next)
          ∙ ap (λ l. folder ∷ l) (taken some)

  -- as many of the next folders as there are
  next_folders : (count : ℕ) → take (min count (length more)) (more ++ rest) ≡ take count more
  next_folders count = take-append-le (min count (length more)) more rest (omega arith) ∙ take_min count more

  pub cut_more : AreTested files options wishes format IsReport wanted folders records old middle
      → LeavesMore files options wishes format more middle new
      → (count : ℕ) × LeavesPart files options wishes format IsReport (take count (folders ++ (more ++ rest))) old new
  cut_more all cut =
      cut_lines files options wishes format IsReport (folders ++ (more ++ rest)) old new
      (length folders + min cut.count (length more)) (all.runs ++ cut.runs)
      (subst (λ (some : List (List ℕ)). AllZip (IsRunIn files options wishes) some (all.runs ++ cut.runs))
      (sym (first_folders (min cut.count (length more)) ∙ ap (λ l. folders ++ l) (next_folders cut.count)))
      (zip_append (IsRunIn files options wishes) folders all.runs (take cut.count more) cut.runs all.are_runs
      cut.are_runs))
      (lines_cut format wishes all.runs cut.runs old middle new all.written cut.left)

-- the lines of all of them are such a prefix
pub more_left : (files : List ℕ → File) (options : Options) (wishes : List Condition) (format : Format)
    (is_wanted : Bool) (folders : List (List ℕ)) (before after : Records) (failing : List (List ℕ))
    (old new : Option (List ℕ)) → TestsMore files options wishes format is_wanted folders before after failing old new
    → LeavesMore files options wishes format folders old new
more_left files options wishes format is_wanted folders before after failing old new some = record {
  count = length folders;
  runs = some.runs;
  are_runs = subst (λ (few : List (List ℕ)). AllZip (IsRunIn files options wishes) few some.runs)
      (sym (take_all (length folders) folders (omega arith))) some.are_runs;
  left = all_lines format wishes some.runs old new some.writes.written;
}

-- ---- a test that doesn't begin, or beside which files can't be written

module _ (files : List ℕ → File) (options : Options) (wishes : List Condition) (format : Format)
    (IsReport : List ℕ → Data → Type 0) (folders : List (List ℕ)) where
  -- nothing is written
  pub nothing_left : (old : Option (List ℕ))
      → TestLeaves files options wishes format IsReport folders (test_ending (Err Write)) old old
  nothing_left old =
      cut_lines files options wishes format IsReport folders old old 0 [] tt (no_line format wishes [] old)

  -- a text of a test of all is a text of a test of the first
  of_first : (IsSaid : List Run → Type 0) (text : List ℕ)
      → IsTestText files options wishes format IsReport IsSaid folders text
      → IsTestText files options wishes format IsReport (λ _. ⊤) (take (length folders) folders) text
  of_first IsSaid text is = record {
    runs = is.runs;
    are_runs = subst (λ (some : List (List ℕ)). AllZip (IsRunIn files options wishes) some is.runs)
        (sym (take_all (length folders) folders (omega arith))) is.are_runs;
    said = tt;
    orders = is.orders;
    is_text = is.is_text;
  }

  -- all is written, but something beside it can't be
  pub unwritten_beside : (old new : Option (List ℕ)) (end : Conclusion)
      → TestLeaves files options wishes format IsReport folders (test_ending (Ok end)) old new
      → TestLeaves files options wishes format IsReport folders (test_ending (Err Write)) old new
  unwritten_beside old new AllPass left = (length folders, inl (left.0, of_first _ left.0 left.1, left.2))
  unwritten_beside old new SomeFails left = (length folders, inl (left.0, of_first _ left.0 left.1, left.2))
  unwritten_beside old new SomeNotJudged left = (length folders, inl (left.0, of_first _ left.0 left.1, left.2))
