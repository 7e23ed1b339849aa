-- What a tally stands for, and the parts of the text of a test.
use Rattle.std.specs.Prelude.{◌≡◌, ◌++◌, ◌∷◌, [], ℕ, not, List, codes, decimal, filter, flat_map, length, map, take}
use Rattle.judge_runs.specs.Runs.{Fail, NotJudged, Pass, Run, count_of, counts_text, is_same, line_of, verdict_of_run}
use Rattle.judge_runs.specs.Views.{verdict_view}
use Rattle.judge_runs.specs.Wishes.{Condition}
use Rattle.judge_runs.specs.declared.tally.Counts.{Counts}
use Rattle.judge_runs.specs.declared.tally.Tally.{Tally}

-- ---- parts of the text

-- texts with a comma and a space between each two
abbrev pub listed : List (List ℕ) → List ℕ
listed [] = []
listed (first ∷ more) = first ++ flat_map (λ text. codes ", " ++ text) more

unfoldable pub field_text : (word : List ℕ) (number : ℕ) → List ℕ
field_text word number = word ++ decimal number

-- the line of these numbers, as in `counts_text`
abbrev pub counts_line : (all pass fail not_judged : ℕ) → List ℕ
counts_line all pass fail not_judged =
    codes "runs: " ++ decimal all ++ codes ", pass: " ++ decimal pass ++ codes ", fail: " ++ decimal fail
    ++ codes ", not judged: " ++ decimal not_judged ++ codes "\n"

-- lines, each after two blanks
abbrev pub indented : List (List ℕ) → List ℕ
indented lines = flat_map (λ line. codes "  " ++ line) lines

-- the lines of the first runs that don't pass
abbrev pub first_lines : List Condition → List Run → List (List ℕ)
first_lines wishes runs =
    map (line_of wishes) (take 5 (filter (λ run. not (is_same Pass (verdict_of_run wishes run))) runs))

-- the lines of the runs
abbrev pub lines_text : List Condition → List Run → List ℕ
lines_text wishes runs = flat_map (line_of wishes) runs

-- the numbers of runs, and the first lines of those that don't pass once more
abbrev pub summary_text : List Condition → List Run → List ℕ
summary_text wishes runs = counts_text (map (verdict_of_run wishes) runs) ++ indented (first_lines wishes runs)

-- ---- the tally

-- it has the verdict of each of these runs, and the lines of the first that don't pass
pub record Stands (wishes : List Condition) (runs : List Run) (tally : Tally) : Type 0 where
  pub verdicts : map verdict_view tally.verdicts.items ≡ map (verdict_of_run wishes) runs
  pub first : map (λ line. line.items) tally.first.items ≡ first_lines wishes runs

-- these are the numbers of the runs, and of those with each verdict
pub record AreCounts (wishes : List Condition) (runs : List Run) (counts : Counts) : Type 0 where
  pub all : counts.all ≡ length (map (verdict_of_run wishes) runs)
  pub pass : counts.pass ≡ count_of Pass (map (verdict_of_run wishes) runs)
  pub fail : counts.fail ≡ count_of Fail (map (verdict_of_run wishes) runs)
  pub not_judged : counts.not_judged ≡ count_of NotJudged (map (verdict_of_run wishes) runs)
