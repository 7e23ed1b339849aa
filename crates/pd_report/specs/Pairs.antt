-- What reading the lines of an answer gives.
use Rattle.std.specs.Prelude.{◌≡◌, ℕ, ◌≤◌, List, ◌∷◌, ◌++◌, length, map}
use Rattle.std.specs.List.{AllByRecursion}
use Rattle.def_format.specs.Limits.{predicate_limit}
use Rattle.def_format.specs.Lines.{ended_lines, line_feed}
use Rattle.def_format.specs.Reports as reports
use Rattle.def_format.specs.Reports.{answer_lines, text_of_lines, AnswerIsLawful, DefinitelyIsLawful}
use Rattle.pd_report.specs.Reading.{first_text, second_text, FirstIsLawful}
use Rattle.pd_report.specs.Views.{answer_view}
use Rattle.pd_report.specs.declared.answer.Answer.{Answer}
use Rattle.pd_report.specs.declared.reader.Pair.{Pair}
use Rattle.pd_report.specs.declared.reader.Pair.TheVariants.{Reported, First, Second}

-- at least one lawful answer, and no more than a document has predicates
abbrev pub AnswersFit : List Answer → Type 0
AnswersFit answers = (1 ≤ length answers) × (length answers ≤ predicate_limit)
    × AllByRecursion AnswerIsLawful (map answer_view answers)

-- a first line with which the second, if it is there, doesn't go
pub record StopsInPair (first : List ℕ) (others : List (List ℕ)) : Type 0 where
  pub reported : List ℕ × reports.Possibly
  pub lawful : FirstIsLawful reported
  pub same : first ≡ first_text reported
  pub none : (second : List ℕ) (more : List (List ℕ)) → others ≡ second ∷ more → (definitely : reports.Definitely)
      → DefinitelyIsLawful definitely → ¬ (second ≡ second_text reported.0 definitely)

-- what a first line and the bytes after it are
abbrev pub IsPair : (first others : List ℕ) → Pair → Type 0
IsPair first others (Reported answer rest) = AnswerIsLawful (answer_view answer)
    × (first ++ line_feed ∷ others ≡ text_of_lines (answer_lines (answer_view answer)) ++ rest.now)
IsPair first others First = (line : List ℕ × reports.Possibly) → FirstIsLawful line → ¬ (first ≡ first_text line)
IsPair first others Second = StopsInPair first (ended_lines others)
