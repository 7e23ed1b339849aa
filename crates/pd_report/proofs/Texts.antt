-- Texts of reports, line by line.
use Rattle.std.proofs.Common.{◌≡◌, ℕ, List, [], ◌∷◌, ◌++◌, map, refl, ap, ◌∙◌, append-nil}
use Rattle.std.specs.Prelude.{codes, flat_map}
use Rattle.std.proofs.lemmas.Grind.{flat_map-append}
use Rattle.def_format.specs.Lines.{line_feed}
use Rattle.def_format.specs.Reports.{Possibly, Definitely, Refusal, Spec, Predicate, Streams, Stream, Absent, Match, Cycle, Judged, Refused, answer_lines, definitely_words, possibly_words, refusal_words, report_text, spaced, text_of_lines}
use Rattle.def_format.specs.Reports as reports
use Rattle.pd_report.specs.Views.{answer_view, answers_text, definitely_line, possibly_line, session_text}
use Rattle.pd_report.specs.declared.answer.Answer.{Answer}

lines_on : (lines others : List (List ℕ)) → text_of_lines (lines ++ others) ≡ text_of_lines lines
    ++ text_of_lines others
lines_on lines others = flat_map-append (λ line. line ++ line_feed ∷ []) lines others

-- the lines of each answer, one after the other
pub lines_of_answers : (answers : List Answer) → text_of_lines (flat_map answer_lines (map answer_view answers))
    ≡ answers_text answers
lines_of_answers [] = refl
lines_of_answers (answer ∷ answers) =
    lines_on (answer_lines (answer_view answer)) (flat_map answer_lines (map answer_view answers))
    ∙ ap (λ rest. text_of_lines (answer_lines (answer_view answer)) ++ rest) (lines_of_answers answers)

first_line : (name : List ℕ) (p : Possibly) → spaced (name ∷ codes "possibly" ∷ possibly_words p)
    ≡ name ++ (codes " possibly " ++ spaced (possibly_words p))
first_line name (Possibly.Yes counts) = refl
first_line name Possibly.No = refl
first_line name (Possibly.Unknown level) = refl

second_line : (name : List ℕ) (d : Definitely) → spaced (name ∷ codes "definitely" ∷ definitely_words d)
    ≡ name ++ (codes " definitely " ++ spaced (definitely_words d))
second_line name (Definitely.Yes level) = refl
second_line name (Definitely.No path) = refl
second_line name (Definitely.Unknown level) = refl

-- an answer's text is its two lines
pub two_lines : (answer : reports.Answer) → text_of_lines (answer_lines answer) ≡ (possibly_line answer ++ 10 ∷ [])
    ++ (definitely_line answer ++ 10 ∷ [])
two_lines answer =
    ap (λ line. (line ++ 10 ∷ []) ++ text_of_lines
    (spaced (answer.name ∷ codes "definitely" ∷ definitely_words answer.definitely) ∷ []))
    (first_line answer.name answer.possibly)
    ∙ ap (λ line. (possibly_line answer ++ 10 ∷ []) ++ ((line ++ 10 ∷ []) ++ []))
    (second_line answer.name answer.definitely)
    ∙ ap (λ rest. (possibly_line answer ++ 10 ∷ []) ++ rest) (append-nil (definitely_line answer ++ 10 ∷ []))

-- the session's line, and then two lines for each answer
pub judged_text : (processes events messages : ℕ) (answers : List Answer)
    → report_text (Judged processes events messages (map answer_view answers)) ≡ session_text processes events messages
    ++ answers_text answers
judged_text processes events messages answers =
    ap (λ lines. session_text processes events messages ++ lines) (lines_of_answers answers)

-- each refusal has words
pub refused_words : (refusal : Refusal) → spaced (codes "refused" ∷ refusal_words refusal) ≡ codes "refused "
    ++ spaced (refusal_words refusal)
refused_words (Spec word) = refl
refused_words (Predicate number word at) = refl
refused_words Streams = refl
refused_words (Stream stream line word) = refl
refused_words (Absent name) = refl
refused_words (Match word place) = refl
refused_words (Cycle places) = refl

pub refused_text : (refusal : Refusal)
    → report_text (Refused refusal) ≡ (codes "refused " ++ spaced (refusal_words refusal)) ++ 10 ∷ []
refused_text refusal = append-nil (spaced (codes "refused" ∷ refusal_words refusal) ++ 10 ∷ [])
    ∙ ap (λ line. line ++ 10 ∷ []) (refused_words refusal)

pub two_written : (start first after a b : List ℕ) → start ≡ [] → first ≡ start ++ a → after ≡ first ++ b
    → after ≡ a ++ b
two_written start first after a b none begun done = done ∙ ap (λ out. out ++ b) (begun ∙ ap (λ out. out ++ a) none)
