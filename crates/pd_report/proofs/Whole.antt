-- From the lines of bytes to the bytes.
use Rattle.std.proofs.Common.{◌≡◌, ℕ, zero, suc, ◌+◌, ◌-◌, ◌<◌, ◌≤◌, Bool, true, false, List, [], ◌∷◌, ◌++◌, length, take, drop, refl, sym, ap, ◌∙◌, subst, append_assoc, append-nil, arith}
use Rattle.std.specs.Prelude.{not, ◌==◌}
use Rattle.std.specs.List.{AllByRecursion, list_all}
use Rattle.std.proofs.lemmas.Grind.{flat_map-append}
use Rattle.std.proofs.lemmas.List.{append_cancel_left, take_all}
use Rattle.std.proofs.lemmas.Bool.{and_parts, not-true}
use Rattle.def_format.specs.Lines.{ended_lines, line_feed, onto_first}
use Rattle.def_format.specs.Reports.{Agrees, IsNoReport, IsReport, Report, report_lines, text_of_lines}
use Rattle.def_format.proofs.OneReport.{Lacks, ended_line, lines_lack, lines_of_text}
use Rattle.pd_report.specs.Reading.{Begins, StopsAfter}
use Rattle.pd_report.proofs.Stops.{nothing_stops}

abbrev Lines : Type 0
Lines = List (List ℕ)

-- ---- bytes and their lines

onto_lacks : (x : ℕ) (ws : Lines) → (x == 10) ≡ false → AllByRecursion (Lacks 10) ws
    → AllByRecursion (Lacks 10) (onto_first x ws)
onto_lacks x [] e h = tt
onto_lacks x (w ∷ ws) e h = (rw (e, h.0) refl, h.1)

-- no LF stands in a line
pub ended_lack : (bytes : List ℕ) → AllByRecursion (Lacks 10) (ended_lines bytes)
ended_lack [] = tt
ended_lack (x ∷ bytes) = go (ended_lack bytes) (x == 10) refl
  where
    go : AllByRecursion (Lacks 10) (ended_lines bytes) → (b : Bool) → (x == 10) ≡ b
        → AllByRecursion (Lacks 10) (ended_lines (x ∷ bytes))
    go rest true e = rw e (refl, rest)
    go rest false e = rw e (onto_lacks x (ended_lines bytes) e rest)

-- bytes with no LF have no ended line
pub no_ended : (last : List ℕ) → Lacks 10 last → ended_lines last ≡ []
no_ended [] h = refl
no_ended (x ∷ last) h =
    let parts = and_parts (not (x == 10)) (list_all (λ b. not (b == 10)) last) h in
    rw (not-true (x == 10) parts.0, no_ended last parts.1) refl

-- the first line is cut off
pub first_ended : (bytes first rest : List ℕ) → Lacks 10 first → bytes ≡ first ++ 10 ∷ rest
    → ended_lines bytes ≡ first ∷ ended_lines rest
first_ended bytes first rest h e = ap ended_lines e ∙ ended_line first rest h

-- lines, and what stands after them
pub ended_prefix : (ls : Lines) (rest : List ℕ) → AllByRecursion (Lacks 10) ls → ended_lines (text_of_lines ls ++ rest)
    ≡ ls ++ ended_lines rest
ended_prefix [] rest h = refl
ended_prefix (w ∷ ls) rest h =
    ap ended_lines (append_assoc (w ++ 10 ∷ []) (text_of_lines ls) rest
    ∙ append_assoc w (10 ∷ []) (text_of_lines ls ++ rest))
    ∙ ended_line w (text_of_lines ls ++ rest) h.0
    ∙ ap (λ z. w ∷ z) (ended_prefix ls rest h.1)

-- ---- what agrees

take_lacks : (n : ℕ) (ls : Lines) → AllByRecursion (Lacks 10) ls → AllByRecursion (Lacks 10) (take n ls)
take_lacks zero ls h = tt
take_lacks (suc n) [] h = tt
take_lacks (suc n) (w ∷ ls) h = (h.0, take_lacks n ls h.1)

take_none : (n : ℕ) → take {A = List ℕ} n [] ≡ []
take_none zero = refl
take_none (suc n) = refl

two_prefixes : (i j : ℕ) (ls : Lines) → i ≤ j → take j ls ≡ take i ls ++ take (j - i) (drop i ls)
two_prefixes zero j ls h = ap (λ n. take n ls) (let same : j ≡ j - 0 = omega arith in same)
two_prefixes (suc i) zero ls h = absurd (omega arith)
two_prefixes (suc i) (suc j) [] h = sym (take_none (suc j - suc i))
two_prefixes (suc i) (suc j) (w ∷ ls) h =
    let less : suc j - suc i ≡ j - i = omega arith in
    ap (λ z. w ∷ z) (two_prefixes i j ls (omega arith)) ∙ ap (λ n. w ∷ (take i ls ++ take n (drop i ls))) (sym less)

pub texts_on : (ls more : Lines) → text_of_lines (ls ++ more) ≡ text_of_lines ls ++ text_of_lines more
texts_on ls more = flat_map-append (λ line. line ++ line_feed ∷ []) ls more

agrees : (bytes : List ℕ) (ls : Lines) → ended_lines bytes ≡ ls → (j : ℕ) → j ≤ length ls → Begins (take j ls) → (i : ℕ)
    → i ≤ j → Agrees bytes i
agrees bytes ls e j there b i below = record {
  report = b.report;
  lawful = b.lawful;
  are_there = omega (arith, ap length e);
  rest = text_of_lines (take (j - i) (drop i ls) ++ b.rest);
  begins =
      ap text_of_lines (b.begins ∙ ap (λ z. z ++ b.rest) (two_prefixes i j ls below)
      ∙ append_assoc (take i ls) (take (j - i) (drop i ls)) b.rest)
      ∙ texts_on (take i ls) (take (j - i) (drop i ls) ++ b.rest)
      ∙ ap (λ z. text_of_lines (take i z) ++ text_of_lines (take (j - i) (drop i ls) ++ b.rest)) (sym e);
}

begins_of : (bytes : List ℕ) (ls : Lines) → AllByRecursion (Lacks 10) ls → ended_lines bytes ≡ ls → (j : ℕ)
    → Agrees bytes j → Begins (take j ls)
begins_of bytes ls lack e j a = record {
  report = a.report;
  lawful = a.lawful;
  rest = ended_lines a.rest;
  begins =
      sym (lines_of_text (report_lines a.report) (lines_lack a.report a.lawful))
      ∙ ap ended_lines (a.begins ∙ ap (λ z. text_of_lines (take j z) ++ a.rest) e)
      ∙ ended_prefix (take j ls) a.rest (take_lacks j ls lack);
}

lines_of_report : (bytes : List ℕ) (r : Report) → IsReport bytes r → ended_lines bytes ≡ report_lines r
lines_of_report bytes r h = ap ended_lines h.1 ∙ lines_of_text (report_lines r) (lines_lack r h.0)

-- what stops being a report is no report
pub stops : (bytes : List ℕ) (ls : Lines) → ended_lines bytes ≡ ls → (j : ℕ) → StopsAfter ls j
    → IsNoReport bytes (j + 1)
stops bytes ls ended j s =
    let lack = subst (AllByRecursion (Lacks 10)) ended (ended_lack bytes) in record {
      no_report = λ r h. s.no_report r h.0 (sym ended ∙ lines_of_report bytes r h);
      before = λ i below. agrees bytes ls ended j s.there s.before i (omega arith);
      here = λ a. s.here (omega (arith, a.are_there, ap length ended)) (begins_of bytes ls lack ended (j + 1) a);
    }

-- a last line without its LF is at fault
pub unended : (bytes : List ℕ) (ls : Lines) (last : List ℕ) → bytes ≡ text_of_lines ls ++ last
    → ended_lines bytes ≡ ls → 0 < length last → Begins ls → IsNoReport bytes (length ls + 1)
unended bytes ls last whole ended some begun = record {
  no_report = λ s h.
      let none : last ≡ [] =
      append_cancel_left (text_of_lines ls) last [] (sym whole ∙ h.1
      ∙ ap text_of_lines (sym (lines_of_report bytes s h) ∙ ended) ∙ sym (append-nil (text_of_lines ls))) in
      omega (arith, ap length none);
  before = λ i below. agrees bytes ls ended (length ls) (omega arith)
      (subst Begins (sym (take_all (length ls) ls (omega arith))) begun) i (omega arith);
  here = λ a. omega (arith, a.are_there, ap length ended);
}

pub at_number : (bytes : List ℕ) (n k : ℕ) → IsNoReport bytes n → n ≡ k → IsNoReport bytes k
at_number bytes n k h e = subst (IsNoReport bytes) e h

pub empty_is : (xs : List ℕ) → length xs ≡ 0 → xs ≡ []
empty_is [] e = refl
empty_is (x ∷ xs) e = absurd (omega arith)

-- bytes with no LF
pub nothing_ended : (bytes : List ℕ) → Lacks 10 bytes → IsNoReport bytes 1
nothing_ended bytes lacks = stops bytes [] (no_ended bytes lacks) 0 nothing_stops

-- ---- what the first line begins

pub first_agrees : (bytes first rest : List ℕ) → Lacks 10 first → bytes ≡ first ++ 10 ∷ rest → Begins (first ∷ [])
    → Agrees bytes 1
first_agrees bytes first rest lacks e begun =
    agrees bytes (first ∷ ended_lines rest) (first_ended bytes first rest lacks e) 1 (omega arith) begun 1 (omega arith)
