-- Texts of findings, line by line.
use Rattle.std.proofs.Common.{◌≡◌, ℕ, ◌+◌, ◌<◌, Bool, None, Some, List, [], ◌∷◌, ◌++◌, length, get_or, map, take, refl, sym, ap, ◌∙◌, append-nil, append_assoc}
use Rattle.std.specs.Prelude.{codes, flat_map, Option, Vec}
use Rattle.std.specs.Global.{Global}
use Rattle.std.proofs.lemmas.List.{take_more}
use Rattle.std.proofs.lemmas.Grind.{flat_map-append}
use Rattle.def_format.specs.Lines.{line_feed}
use Rattle.def_format.specs.OtherTexts.{Checked, OfRefusal, OfSession, by_test, check_text, checked_lines, verdict_word}
use Rattle.def_format.specs.Reports.{spaced, text_of_lines}
use Rattle.judge_check.specs.Pieces.{answer_line, test_line, verdicts_text}
use Rattle.judge_check.specs.Views.{checked_view, finding_view}
use Rattle.judge_check.specs.declared.checked.Checked.{Checked as Reported}
use Rattle.judge_check.specs.declared.finding.Finding.{Finding}
use Rattle.judge_check.specs.declared.finding.Finding.TheVariants as findings

line_end : (name modality word : List ℕ) → (name ++ (modality ++ word)) ++ line_feed ∷ []
    ≡ name ++ (modality ++ (word ++ line_feed ∷ []))
line_end name modality word =
    append_assoc name (modality ++ word) (line_feed ∷ [])
    ∙ ap (λ (rest : List ℕ). name ++ rest) (append_assoc modality word (line_feed ∷ []))

-- the text of one predicate is its two lines
pub two_lines : (checked : Checked) → text_of_lines (checked_lines checked)
    ≡ answer_line checked.name (codes " possibly ") checked.possibly ++ answer_line checked.name (codes " definitely ")
    checked.definitely
two_lines checked =
    ap (λ (line : List ℕ). line ++ text_of_lines
    (spaced (checked.name ∷ codes "definitely" ∷ verdict_word checked.definitely ∷ []) ∷ []))
    (line_end checked.name (codes " possibly ") (verdict_word checked.possibly))
    ∙ ap (λ (rest : List ℕ). answer_line checked.name (codes " possibly ") checked.possibly ++ rest)
    (append-nil (spaced (checked.name ∷ codes "definitely" ∷ verdict_word checked.definitely ∷ []) ++ line_feed ∷ [])
    ∙ line_end checked.name (codes " definitely ") (verdict_word checked.definitely))

-- the lines of each predicate, one after the other
pub lines_of_verdicts : (answers : List Reported) → text_of_lines (flat_map checked_lines (map checked_view answers))
    ≡ verdicts_text answers
lines_of_verdicts [] = refl
lines_of_verdicts (checked ∷ answers) =
    flat_map-append (λ line. line ++ line_feed ∷ []) (checked_lines (checked_view checked))
    (flat_map checked_lines (map checked_view answers))
    ∙ ap (λ (rest : List ℕ). text_of_lines (checked_lines (checked_view checked)) ++ rest) (lines_of_verdicts answers)

pub verdicts_more : (old mid new : List ℕ) (answers : List Reported) (i : ℕ) (checked : Reported) → i < length answers
    → checked ≡ get_or answers i checked → mid ≡ old ++ verdicts_text (take i answers)
    → new ≡ mid ++ text_of_lines (checked_lines (checked_view checked))
    → new ≡ old ++ verdicts_text (take (i + 1) answers)
verdicts_more old mid new answers i checked lt is before here =
    let lines : Reported → List ℕ = λ (reported : Reported). text_of_lines (checked_lines (checked_view reported)) in
    let more : take (i + 1) answers ≡ take i answers ++ checked ∷ [] =
    take_more answers i checked lt ∙ ap (λ (reported : Reported). take i answers ++ reported ∷ []) (sym is) in
    let texts : verdicts_text (take (i + 1) answers) ≡ verdicts_text (take i answers) ++ lines checked =
    ap verdicts_text more
    ∙ (flat_map-append lines (take i answers) (checked ∷ [])
    ∙ ap (λ (rest : List ℕ). verdicts_text (take i answers) ++ rest) (append-nil (lines checked))) in
    here ∙ (ap (λ (out : List ℕ). out ++ lines checked) before
    ∙ (append_assoc old (verdicts_text (take i answers)) (lines checked)
    ∙ ap (λ (rest : List ℕ). old ++ rest) (sym texts)))

-- ---- what is found

one_line : (line : List ℕ) → text_of_lines (line ∷ []) ≡ line ++ line_feed ∷ []
one_line line = append-nil (line ++ line_feed ∷ [])

pub refusal_text : (good : Bool) → check_text (OfRefusal good) ≡ test_line (codes "refused ") good
refusal_text good = one_line (codes "refused " ++ verdict_word (by_test good))
    ∙ append_assoc (codes "refused ") (verdict_word (by_test good)) (line_feed ∷ [])

pub other_names_text : (good : Bool) → check_text (OfSession good None) ≡ test_line (codes "session ") good
    ++ (codes "names bad" ++ line_feed ∷ [])
other_names_text good =
    ap (λ (line : List ℕ). line ++ (codes "names bad" ++ line_feed ∷ []))
    (append_assoc (codes "session ") (verdict_word (by_test good)) (line_feed ∷ []))

pub session_text : (good : Bool) (answers : List Reported)
    → check_text (OfSession good (Some (map checked_view answers))) ≡ test_line (codes "session ") good
    ++ verdicts_text answers
session_text good answers =
    ap (λ (line : List ℕ). line ++ text_of_lines (flat_map checked_lines (map checked_view answers)))
    (append_assoc (codes "session ") (verdict_word (by_test good)) (line_feed ∷ []))
    ∙ ap (λ (rest : List ℕ). test_line (codes "session ") good ++ rest) (lines_of_verdicts answers)

-- what was written of a session with verdicts
pub session_written : (finding : Finding) (good : Bool) (verdicts : Option (Vec Reported Global))
    (answers : Vec Reported Global) (items : List Reported) (before mid after : List ℕ)
    → finding ≡ findings.OfSession good verdicts → verdicts ≡ Some answers → items ≡ answers.items
    → mid ≡ before ++ test_line (codes "session ") good → after ≡ mid ++ verdicts_text items
    → after ≡ before ++ check_text (finding_view finding)
session_written finding good verdicts answers items before mid after is reported same begun done =
    let whole : check_text (finding_view finding) ≡ test_line (codes "session ") good ++ verdicts_text items =
    rw (is, reported, ← same) (session_text good items) in
    done
    ∙ (ap (λ (out : List ℕ). out ++ verdicts_text items) begun
    ∙ (append_assoc before (test_line (codes "session ") good) (verdicts_text items)
    ∙ ap (λ (rest : List ℕ). before ++ rest) (sym whole)))
