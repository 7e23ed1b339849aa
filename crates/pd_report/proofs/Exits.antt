-- What each exit of the reader means.
use Rattle.std.proofs.Common.{◌≡◌, ℕ, ◌+◌, ◌*◌, ◌<◌, ◌≤◌, List, [], ◌∷◌, ◌++◌, length, refl, sym, ap, ◌∙◌, subst, append_assoc, append-nil, arith}
use Rattle.std.specs.Prelude.{codes, flat_map}
use Rattle.std.specs.List.{AllByRecursion}
use Rattle.def_format.specs.Limits.{predicate_limit}
use Rattle.def_format.specs.Lines.{ended_lines}
use Rattle.def_format.specs.Reports.{Agrees, Answer, AnswerIsLawful, IsNoReport, Possibly, Refusal, RefusalIsLawful, answer_lines, text_of_lines}
use Rattle.def_format.proofs.OneReport as one_report
use Rattle.def_format.proofs.OneReport.{Lacks, line_lacks, session_line, session_rest}
use Rattle.pd_report.specs.Pairs.{StopsInPair}
use Rattle.pd_report.specs.Reading.{counts_text, first_text, refused_text, Begins, CountsFit, FirstIsLawful, StopsAfter}
use Rattle.pd_report.proofs.Stops.{answers_lack, first_stops, line_stops, refused_begins, refused_stops, second_lacks, second_stops, two_each, whole_answers}
use Rattle.pd_report.proofs.Whole.{at_number, ended_prefix, no_ended, first_agrees, first_ended, stops, unended}

abbrev Lines : Type 0
Lines = List (List ℕ)

-- ---- answers

-- the bytes of a line of counts, and those after it
abbrev pub after_counts : ℕ × ℕ × ℕ → List ℕ → List ℕ
after_counts counts bytes = counts_text counts ++ 10 ∷ bytes

counts_lack : (counts : ℕ × ℕ × ℕ) → CountsFit counts → Lacks 10 (counts_text counts)
counts_lack counts fit =
    line_lacks (codes "session" ∷ session_rest counts.0 counts.1 counts.2)
    (session_line counts.0 counts.1 counts.2 fit.0 fit.1 fit.2)

-- These answers are read so far, and these bytes are left.
pub record AreRead (counts : ℕ × ℕ × ℕ) (xs : List Answer) (bytes rest : List ℕ) : Type 0 where
  pub fit : CountsFit counts
  pub lawful : AllByRecursion AnswerIsLawful xs
  pub few : length xs ≤ predicate_limit
  pub whole : bytes ≡ text_of_lines (flat_map answer_lines xs) ++ rest

lines_read : (counts : ℕ × ℕ × ℕ) (xs : List Answer) (bytes rest : List ℕ) → AreRead counts xs bytes rest
    → ended_lines (after_counts counts bytes) ≡ counts_text counts ∷ (flat_map answer_lines xs ++ ended_lines rest)
lines_read counts xs bytes rest r =
    first_ended (after_counts counts bytes) (counts_text counts) bytes (counts_lack counts r.fit) refl
    ∙ ap (λ lines. counts_text counts ∷ lines) (ap ended_lines r.whole
    ∙ ended_prefix (flat_map answer_lines xs) rest (one_report.answers_lack xs r.lawful))

stopped : (counts : ℕ × ℕ × ℕ) (xs : List Answer) (bytes rest : List ℕ) → AreRead counts xs bytes rest
    → (lines : Lines) → ended_lines rest ≡ lines → (j n k : ℕ)
    → StopsAfter (counts_text counts ∷ (flat_map answer_lines xs ++ lines)) j → n ≡ j + 1 → n ≡ k
    → IsNoReport (after_counts counts bytes) k
stopped counts xs bytes rest r lines e j n k s p q =
    at_number (after_counts counts bytes) (j + 1) k
    (stops (after_counts counts bytes) (counts_text counts ∷ (flat_map answer_lines xs ++ lines))
    (lines_read counts xs bytes rest r ∙ ap (λ z. counts_text counts ∷ (flat_map answer_lines xs ++ z)) e) j s)
    (omega arith)

-- the next line has no LF
pub line_unended : (counts : ℕ × ℕ × ℕ) (xs : List Answer) (bytes rest : List ℕ) → AreRead counts xs bytes rest
    → Lacks 10 rest → 0 < length rest → (n k : ℕ) → n ≡ 2 * length xs + 2 → n ≡ k
    → IsNoReport (after_counts counts bytes) k
line_unended counts xs bytes rest r lacks some n k p q =
    let lines : Lines = counts_text counts ∷ flat_map answer_lines xs in
    let whole : after_counts counts bytes ≡ text_of_lines lines ++ rest =
    ap (after_counts counts) r.whole
    ∙ sym (append_assoc (counts_text counts) (10 ∷ []) (text_of_lines (flat_map answer_lines xs) ++ rest))
    ∙ sym (append_assoc (counts_text counts ++ 10 ∷ []) (text_of_lines (flat_map answer_lines xs)) rest) in
    let ended : ended_lines (after_counts counts bytes) ≡ lines =
    lines_read counts xs bytes rest r
    ∙ ap (λ z. counts_text counts ∷ (flat_map answer_lines xs ++ z)) (no_ended rest lacks)
    ∙ ap (λ z. counts_text counts ∷ z) (append-nil (flat_map answer_lines xs)) in
    at_number (after_counts counts bytes) (length lines + 1) k
    (unended (after_counts counts bytes) lines rest whole ended some (whole_answers counts r.fit xs r.lawful r.few))
    (omega (arith, two_each xs))

-- there are as many answers as there may be
pub line_too_many : (counts : ℕ × ℕ × ℕ) (xs : List Answer) (bytes rest : List ℕ) → AreRead counts xs bytes rest
    → length xs ≡ predicate_limit → (first others : List ℕ) → Lacks 10 first → rest ≡ first ++ 10 ∷ others
    → (n k : ℕ) → n ≡ 2 * length xs + 2 → n ≡ k → IsNoReport (after_counts counts bytes) k
line_too_many counts xs bytes rest r full first others lacks e n k p q =
    stopped counts xs bytes rest r (first ∷ ended_lines others) (first_ended rest first others lacks e)
    (2 * length xs + 1) n k
    (first_stops counts r.fit xs r.lawful r.few first (ended_lines others) (λ few v l same. omega arith))
    (omega arith) q

-- the next line is of no answer
pub line_of_none : (counts : ℕ × ℕ × ℕ) (xs : List Answer) (bytes rest : List ℕ) → AreRead counts xs bytes rest
    → (first others : List ℕ) → Lacks 10 first → rest ≡ first ++ 10 ∷ others
    → ((v : List ℕ × Possibly) → FirstIsLawful v → ¬ (first ≡ first_text v))
    → (n k : ℕ) → n ≡ 2 * length xs + 2 → n ≡ k → IsNoReport (after_counts counts bytes) k
line_of_none counts xs bytes rest r first others lacks e none n k p q =
    stopped counts xs bytes rest r (first ∷ ended_lines others) (first_ended rest first others lacks e)
    (2 * length xs + 1) n k
    (first_stops counts r.fit xs r.lawful r.few first (ended_lines others) (λ few. none))
    (omega arith) q

pair_stops : (counts : ℕ × ℕ × ℕ) → CountsFit counts → (xs : List Answer) → AllByRecursion AnswerIsLawful xs
    → length xs < predicate_limit → (line : List ℕ) (others : Lines) → StopsInPair line others
    → StopsAfter (counts_text counts ∷ (flat_map answer_lines xs ++ line ∷ others)) (2 * length xs + 2)
pair_stops counts fit xs h few line [] s = second_lacks counts fit xs h few line s.reported s.lawful s.same
pair_stops counts fit xs h few line (second ∷ more) s =
    second_stops counts fit xs h few line s.reported s.lawful s.same second more (s.none second more refl)

-- the line after the next one doesn't go with it
pub line_apart : (counts : ℕ × ℕ × ℕ) (xs : List Answer) (bytes rest : List ℕ) → AreRead counts xs bytes rest
    → length xs < predicate_limit → (first others : List ℕ) → Lacks 10 first → rest ≡ first ++ 10 ∷ others
    → StopsInPair first (ended_lines others) → (n k : ℕ) → n ≡ 2 * length xs + 3 → n ≡ k
    → IsNoReport (after_counts counts bytes) k
line_apart counts xs bytes rest r few first others lacks e s n k p q =
    stopped counts xs bytes rest r (first ∷ ended_lines others) (first_ended rest first others lacks e)
    (2 * length xs + 2) n k (pair_stops counts r.fit xs r.lawful few first (ended_lines others) s) (omega arith) q

-- there is no answer
pub no_answer : (counts : ℕ × ℕ × ℕ) (xs : List Answer) (bytes rest : List ℕ) → AreRead counts xs bytes rest
    → length xs ≡ 0 → rest ≡ [] → (k : ℕ) → 2 ≡ k → IsNoReport (after_counts counts bytes) k
no_answer counts [] bytes rest r none done k q =
    stopped counts [] bytes rest r [] (ap ended_lines done) 1 2 k (answers_lack counts r.fit) refl q
no_answer counts (x ∷ xs) bytes rest r none done k q = absurd (omega arith)

-- ---- a report

-- the bytes are cut after their first line
pub record Cut (bytes first rest : List ℕ) : Type 0 where
  pub lacks : Lacks 10 first
  pub whole : bytes ≡ first ++ 10 ∷ rest

-- the first line is no report's
pub first_stops_it : (bytes first rest : List ℕ) → Cut bytes first rest
    → ((counts : ℕ × ℕ × ℕ) → CountsFit counts → ¬ (first ≡ counts_text counts))
    → ((r : Refusal) → RefusalIsLawful r → ¬ (first ≡ refused_text r)) → IsNoReport bytes 1
first_stops_it bytes first rest cut counts refused =
    stops bytes (first ∷ ended_lines rest) (first_ended bytes first rest cut.lacks cut.whole) 0
    (line_stops first (ended_lines rest) counts refused)

-- bytes stand after a refusal's line
pub refused_goes_on : (bytes first rest : List ℕ) → Cut bytes first rest → (r : Refusal) → RefusalIsLawful r
    → first ≡ refused_text r → 0 < length rest → IsNoReport bytes 2
refused_goes_on bytes first rest cut r l same some = go (ended_lines rest) refl
  where
    go : (lines : Lines) → ended_lines rest ≡ lines → IsNoReport bytes 2
    go [] e =
        unended bytes (first ∷ []) rest (cut.whole ∙ sym (append_assoc first (10 ∷ []) rest)
        ∙ ap (λ z. z ++ rest) (sym (append-nil (first ++ 10 ∷ []))))
        (first_ended bytes first rest cut.lacks cut.whole ∙ ap (λ z. first ∷ z) e) some
        (subst (λ z. Begins (z ∷ [])) (sym same) (refused_begins r l))
    go (next ∷ more) e =
        stops bytes (first ∷ next ∷ more)
        (first_ended bytes first rest cut.lacks cut.whole ∙ ap (λ z. first ∷ z) e) 1
        (refused_stops first next more r l same)

-- some report begins with the first line
pub counts_agree : (bytes first rest : List ℕ) → Cut bytes first rest → (counts : ℕ × ℕ × ℕ) → CountsFit counts
    → first ≡ counts_text counts → Agrees bytes 1
counts_agree bytes first rest cut counts fit same =
    first_agrees bytes first rest cut.lacks cut.whole
    (subst (λ z. Begins (z ∷ [])) (sym same) (whole_answers counts fit [] tt (omega arith)))

pub refused_agrees : (bytes first rest : List ℕ) → Cut bytes first rest → (r : Refusal) → RefusalIsLawful r
    → first ≡ refused_text r → Agrees bytes 1
refused_agrees bytes first rest cut r l same =
    first_agrees bytes first rest cut.lacks cut.whole
    (subst (λ z. Begins (z ∷ [])) (sym same) (refused_begins r l))
