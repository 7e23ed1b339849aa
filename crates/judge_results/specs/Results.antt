-- The results of recorded runs for other programs: one JSON object, and the XML of JUnit. The fields of each object
-- stand in byte order of their names.
use Rattle.std.specs.Ffi.{without_last}
use Rattle.std.specs.Prelude.{ℕ, List, [], ◌∷◌, ◌++◌, codes, decimal, filter, flat_map, length, map, Option, Some, None}
use Rattle.serde_json.specs.Data.{Data, null, string, array, object, Members, no_members}
use Rattle.serde_json.specs.View.{items_of}
use Rattle.serde_json.specs.Written.{compact_text}
use Rattle.def_format.specs.Lines.{line_feed}
use Rattle.def_format.specs.Reports.{Answer, Report, Judged, Refused, definitely_words, possibly_words}
use Rattle.judge_runs.specs.Runs.{AllPass, Conclusion, Fail, NotJudged, Outcome, Pass, Reported, Run, SomeFails, SomeNotJudged, Unnamed, Unread, Verdict, conclusion, count_of, outcome_words, verdict_of_run}
use Rattle.judge_runs.specs.Wishes.{Condition, DefinitelyYes, Kind, is_broken}
use Rattle.out_json.specs.JsonReports.{field, json_of, number_data}
use Rattle.out_svg.specs.Escapes.{escape}

-- ---- an answer that isn't as wished

-- the question that decides about a wish
abbrev pub question : Kind → List ℕ
question DefinitelyYes = codes "definitely"
question _ = codes "possibly"

-- the first of words
abbrev pub first_word : (words : List (List ℕ)) → List ℕ
first_word [] = []
first_word (word ∷ _) = word

-- the answer to that question: its first word in a report
abbrev pub answer_word : Kind → Answer → List ℕ
answer_word DefinitelyYes answer = first_word (definitely_words answer.definitely)
answer_word _ answer = first_word (possibly_words answer.possibly)

abbrev pub broken_data : Kind → Answer → Data
broken_data kind answer =
    object (field "answer" (string (answer_word kind answer)) (field "predicate" (string answer.name)
    (field "question" (string (question kind)) no_members)))

-- the answers that aren't as wished by this wish
abbrev pub datas_by : List Answer → Condition → List Data
datas_by answers wish = map (broken_data wish.kind) (filter (is_broken wish) answers)

-- the same of all wishes, in their order
abbrev pub broken_datas : List Condition → List Answer → List Data
broken_datas wishes answers = flat_map (datas_by answers) wishes

-- ---- a run as JSON

-- a run of this name that comes to this word, and what stands after it
abbrev pub named : (name : List ℕ) → (word : List ℕ) → Members → Members
named name word more = field "name" (string name) (field "outcome" (string word) more)

-- a run that is judged, by the answers that aren't as wished
abbrev pub judged_data : (name : List ℕ) → (broken : List Data) → Data
judged_data name [] = object (named name (codes "pass") no_members)
judged_data name (first ∷ more) =
    object (field "broken" (array (items_of (first ∷ more))) (named name (codes "fail") no_members))

abbrev pub refused_data : (name : List ℕ) → Report → Data
refused_data name report = object (named name (codes "not judged") (field "report" (json_of [] report) no_members))

abbrev pub unread_data : (name file : List ℕ) → Data
unread_data name file = object (field "file" (string file) (named name (codes "not judged") no_members))

abbrev pub unnamed_data : (name predicate : List ℕ) → Data
unnamed_data name predicate =
    object (named name (codes "not judged") (field "unnamed" (string predicate) no_members))

-- a run, by what comes of it
abbrev pub outcome_data : List Condition → (name : List ℕ) → Outcome → Data
outcome_data wishes name (Unread file) = unread_data name file
outcome_data wishes name (Unnamed predicate) = unnamed_data name predicate
outcome_data wishes name (Reported (Refused refusal)) = refused_data name (Refused refusal)
outcome_data wishes name (Reported (Judged processes events messages answers)) =
    judged_data name (broken_datas wishes answers)

abbrev pub run_data : List Condition → Run → Data
run_data wishes run = outcome_data wishes run.folder run.outcome

-- ---- all runs as JSON

-- the word for what runs come to together
abbrev pub outcome_word : Conclusion → List ℕ
outcome_word AllPass = codes "pass"
outcome_word SomeFails = codes "fail"
outcome_word SomeNotJudged = codes "not judged"

-- the numbers of runs
abbrev pub counts_data : (all fail not_judged pass : ℕ) → Data
counts_data all fail not_judged pass =
    object (field "all" (number_data all) (field "fail" (number_data fail)
    (field "not_judged" (number_data not_judged) (field "pass" (number_data pass) no_members))))

-- how many orders the runs have, if it is known
abbrev pub orders_data : Option ℕ → Data
orders_data None = null
orders_data (Some orders) = number_data orders

-- the report of a run of this name
abbrev pub report_data : (name : List ℕ) → (report : Data) → Data
report_data name report = object (field "name" (string name) (field "report" report no_members))

-- The first fields of the object of runs with these numbers, that come to this, and more of them. The field `format`
-- has the version of this format.
abbrev pub first_fields : (counts orders : Data) → Conclusion → Members → Members
first_fields counts orders end more =
    field "counts" counts (field "format" (number_data 1) (field "orders" orders
    (field "outcome" (string (outcome_word end)) more)))

-- the object, with these reports and these runs
abbrev pub object_data : (counts orders : Data) → Conclusion → (reports runs : List Data) → Data
object_data counts orders end reports runs =
    object (first_fields counts orders end (field "reports" (array (items_of reports))
    (field "runs" (array (items_of runs)) no_members)))

-- the numbers of runs of these verdicts
abbrev pub numbers_data : List Verdict → Data
numbers_data verdicts =
    counts_data (length verdicts) (count_of Fail verdicts) (count_of NotJudged verdicts) (count_of Pass verdicts)

-- the object of runs with these reports, each as `report_data`
abbrev pub results_data : List Condition → List Run → (reports : List Data) (orders : Option ℕ) → Data
results_data wishes runs reports orders =
    object_data (numbers_data (map (verdict_of_run wishes) runs)) (orders_data orders) (conclusion wishes runs) reports
    (map (run_data wishes) runs)

-- the object without spaces, in one line
unfoldable pub results_json : List Condition → List Run → (reports : List Data) (orders : Option ℕ) → List ℕ
results_json wishes runs reports orders = compact_text (results_data wishes runs reports orders) ++ line_feed ∷ []

-- ---- the XML of JUnit

-- the type of the error of a run that isn't judged
abbrev pub error_type : Outcome → List ℕ
error_type (Unread file) = codes "unread"
error_type (Unnamed name) = codes "unnamed"
error_type (Reported report) = codes "refused"

-- the element of this name, type and message in a test case, and the end of the case
unfoldable pub found_text : (element kind words : List ℕ) → List ℕ
found_text element kind words =
    codes "><" ++ element ++ codes " type=\"" ++ kind ++ codes "\" message=\"" ++ escape words
    ++ codes "\"/></testcase>\n"

-- what stands in a test case after its name
abbrev pub case_end : Verdict → Outcome → (words : List ℕ) → List ℕ
case_end Pass outcome words = codes "/>\n"
case_end Fail outcome words = found_text (codes "failure") (codes "fail") words
case_end NotJudged outcome words = found_text (codes "error") (error_type outcome) words

unfoldable pub case_begin : (name : List ℕ) → List ℕ
case_begin name = codes "<testcase classname=\"monitor\" name=\"" ++ escape name ++ codes "\""

-- the test case of a run, in one line: the words are those of the run's line, without the LF
abbrev pub case_text : List Condition → Run → List ℕ
case_text wishes run =
    case_begin run.folder
    ++ case_end (verdict_of_run wishes run) run.outcome (without_last (outcome_words wishes run.outcome))

-- a word, and a number after it
unfoldable pub numbered : (word : List ℕ) (number : ℕ) → List ℕ
numbered word number = word ++ decimal number

-- what stands before the test cases, by the numbers of runs
unfoldable pub junit_head : (all fail not_judged : ℕ) → List ℕ
junit_head all fail not_judged =
    codes "<?xml version=\"1.0\" encoding=\"UTF-8\"?>\n" ++ numbered (codes "<testsuite name=\"monitor\" tests=\"") all
    ++ numbered (codes "\" failures=\"") fail ++ numbered (codes "\" errors=\"") not_judged ++ codes "\">\n"

-- test cases between their head and their end
abbrev pub junit_by : (head cases : List ℕ) → List ℕ
junit_by head cases = head ++ cases ++ codes "</testsuite>\n"

-- the head of runs of these verdicts
abbrev pub head_of : List Verdict → List ℕ
head_of verdicts = junit_head (length verdicts) (count_of Fail verdicts) (count_of NotJudged verdicts)

abbrev pub junit_text : List Condition → List Run → List ℕ
junit_text wishes runs =
    junit_by (head_of (map (verdict_of_run wishes) runs)) (flat_map (case_text wishes) runs)
