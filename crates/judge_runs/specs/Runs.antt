-- What comes of recorded runs that are tested, and the text that says so.
use Rattle.std.specs.Prelude.{ℕ, Bool, true, false, not, List, [], ◌∷◌, ◌++◌, codes, decimal, filter, flat_map, length, map, nat_lt, take}
use Rattle.def_format.specs.Reports.{Report, Judged, Refused, report_text}
use Rattle.judge_runs.specs.Wishes.{Condition, broken}

-- ---- a run

pub data Outcome : Type 0 where
  -- the file of this name can't be opened or read
  Unread : (file : List ℕ) → Outcome
  -- the document has no predicate of this name, which is in a wish
  Unnamed : (name : List ℕ) → Outcome
  -- the report on the run
  Reported : Report → Outcome

-- a run in the folder of this name, and what comes of it
pub record Run : Type 0 where
  pub folder : List ℕ
  pub outcome : Outcome

pub data Verdict : Type 0 where
  -- all is as wished
  Pass : Verdict
  -- an answer isn't
  Fail : Verdict
  -- there are no answers
  NotJudged : Verdict

abbrev pub verdict_by : (broken : List (List ℕ)) → Verdict
verdict_by [] = Pass
verdict_by (_ ∷ _) = Fail

abbrev pub verdict_of : List Condition → Outcome → Verdict
verdict_of wishes (Reported (Judged processes events messages answers)) = verdict_by (broken wishes answers)
verdict_of wishes _ = NotJudged

abbrev pub verdict_of_run : List Condition → Run → Verdict
verdict_of_run wishes run = verdict_of wishes run.outcome

-- two verdicts are the same
abbrev pub is_same : Verdict → Verdict → Bool
is_same Pass Pass = true
is_same Fail Fail = true
is_same NotJudged NotJudged = true
is_same _ _ = false

-- ---- its line

-- the answers that aren't as wished, with a comma and a space between each two
abbrev pub judged_words : (broken : List (List ℕ)) → List ℕ
judged_words [] = codes "pass\n"
judged_words (first ∷ more) = codes "fail: " ++ (first ++ flat_map (λ text. codes ", " ++ text) more) ++ codes "\n"

-- what came of a run: a refusal in the words of its report
abbrev pub outcome_words : List Condition → Outcome → List ℕ
outcome_words wishes (Unread file) = codes "unread " ++ file ++ codes "\n"
outcome_words wishes (Unnamed name) = codes "unnamed " ++ name ++ codes "\n"
outcome_words wishes (Reported (Refused refusal)) = report_text (Refused refusal)
outcome_words wishes (Reported (Judged processes events messages answers)) = judged_words (broken wishes answers)

-- the line of a run, with its LF
abbrev pub line_of : List Condition → Run → List ℕ
line_of wishes run = run.folder ++ codes ": " ++ outcome_words wishes run.outcome

-- ---- the text

-- how many runs have this verdict
abbrev pub count_of : Verdict → List Verdict → ℕ
count_of verdict verdicts = length (filter (is_same verdict) verdicts)

-- how many runs there are, and how many have each verdict
abbrev pub counts_text : List Verdict → List ℕ
counts_text verdicts =
    codes "runs: " ++ decimal (length verdicts) ++ codes ", pass: " ++ decimal (count_of Pass verdicts)
    ++ codes ", fail: " ++ decimal (count_of Fail verdicts)
    ++ codes ", not judged: " ++ decimal (count_of NotJudged verdicts) ++ codes "\n"

-- The line of each run, then the numbers of runs, and then once more the lines of the first five runs that don't pass,
-- each after two blanks.
abbrev pub test_text : List Condition → List Run → List ℕ
test_text wishes runs =
    flat_map (line_of wishes) runs ++ (counts_text (map (verdict_of_run wishes) runs)
    ++ flat_map (λ line. codes "  " ++ line)
    (map (line_of wishes) (take 5 (filter (λ run. not (is_same Pass (verdict_of_run wishes run))) runs))))

-- ---- what they come to together

pub data Conclusion : Type 0 where
  -- each run passes
  AllPass : Conclusion
  -- one fails
  SomeFails : Conclusion
  -- none fails, and one isn't judged
  SomeNotJudged : Conclusion

abbrev pub conclusion_by : (some_fails some_not_judged : Bool) → Conclusion
conclusion_by true _ = SomeFails
conclusion_by false true = SomeNotJudged
conclusion_by false false = AllPass

abbrev pub conclusion_of : List Verdict → Conclusion
conclusion_of verdicts =
    conclusion_by (nat_lt 0 (count_of Fail verdicts)) (nat_lt 0 (count_of NotJudged verdicts))

abbrev pub conclusion : List Condition → List Run → Conclusion
conclusion wishes runs = conclusion_of (map (verdict_of_run wishes) runs)
