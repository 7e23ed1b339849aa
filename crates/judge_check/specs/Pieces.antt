-- The pieces in which the text of a finding is put together.
use Rattle.std.specs.Prelude.{ℕ, Bool, codes, decimal, List, [], ◌∷◌, ◌++◌, flat_map}
use Rattle.def_format.specs.Lines.{line_feed}
use Rattle.def_format.specs.OtherTexts as texts
use Rattle.def_format.specs.OtherTexts.{by_test, checked_lines, verdict_word}
use Rattle.def_format.specs.Reports.{text_of_lines}
use Rattle.judge_check.specs.Views.{checked_view}
use Rattle.judge_check.specs.declared.checked.Checked.{Checked}

-- the line of a verdict on an answer, with its LF; the modality stands between spaces
abbrev pub answer_line : (name modality : List ℕ) → texts.Verdict → List ℕ
answer_line name modality verdict = name ++ (modality ++ (verdict_word verdict ++ line_feed ∷ []))

-- the line of what is good or not
abbrev pub test_line : List ℕ → Bool → List ℕ
test_line subject good = subject ++ (verdict_word (by_test good) ++ line_feed ∷ [])

-- the line of a report that isn't read
abbrev pub unread_line : ℕ → List ℕ
unread_line line = codes "report line " ++ (decimal line ++ line_feed ∷ [])

-- the lines of verdicts, each with its LF
abbrev pub verdicts_text : List Checked → List ℕ
verdicts_text answers = flat_map (λ checked. text_of_lines (checked_lines (checked_view checked))) answers
