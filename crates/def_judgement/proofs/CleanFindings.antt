-- A finding is clean exactly if its text is.
use Rattle.std.proofs.Common.{◌≡◌, ◌≢◌, ℕ, zero, suc, ◌/◌, ◌%◌, Bool, true, false, List, [], ◌∷◌, ◌++◌, All, Some, None, refl, sym, ◌∙◌, ap, append_assoc, arith}
use Rattle.std.specs.Prelude.{◌==◌, not, if◌then◌else◌, codes, decimal, flat_map}
use Rattle.std.specs.List.{list_any}
use Rattle.std.specs.Fmt.{digits, digits_onto, digit_glyph}
use Rattle.std.proofs.lemmas.Bool.Decides.{nat_tests}
use Rattle.std.proofs.lemmas.List.Elements.{All-cons, All-nil, All-head, All-tail, All-append}
use Rattle.std.proofs.lemmas.Bool.{not-true}
use Rattle.def_format.proofs.LineFacts.{or_false}
use Rattle.def_format.specs.Reports.{spaced}
use Rattle.def_format.specs.OtherTexts.{Verdict, Good, Bad, Unchecked, verdict_word, Checked, checked_lines, NotRead, OfRefusal, OfSession}
use Rattle.def_judgement.specs.Findings.{EndsBad, SaysUnread, IsCleanLine, is_bad, has_bad, CleanIsClean}

-- ---- the last two bytes of a line

-- the last byte of a line that stands after this one
abbrev last_of : ℕ → List ℕ → ℕ
last_of byte [] = byte
last_of byte (next ∷ rest) = last_of next rest

-- the last byte but one of a line that stands after these two
abbrev last_but_one : ℕ → ℕ → List ℕ → ℕ
last_but_one first second [] = first
last_but_one first second (next ∷ rest) = last_but_one second next rest

last_of-append : (byte : ℕ) (prefix : List ℕ) (x : ℕ) (rest : List ℕ) → last_of byte (prefix ++ x ∷ rest)
    ≡ last_of x rest
last_of-append byte [] x rest = refl
last_of-append byte (next ∷ prefix) x rest = last_of-append next prefix x rest

last_but_one-append : (first second : ℕ) (prefix : List ℕ) (x y : ℕ) (rest : List ℕ)
    → last_but_one first second (prefix ++ x ∷ y ∷ rest) ≡ last_but_one x y rest
last_but_one-append first second [] x y rest = refl
last_but_one-append first second (next ∷ prefix) x y rest = last_but_one-append second next prefix x y rest

-- ---- the end of a number

-- after any byte but `d` the bytes end with another than `d`
abbrev EndsOtherwise : List ℕ → Type 0
EndsOtherwise bytes = (byte : ℕ) → byte ≢ 100 → last_of byte bytes ≢ 100

digit_differs : (n : ℕ) → digit_glyph false (n % 10) ≢ 100
digit_differs n = grind (arith, nat_tests)

digits_end : (k n : ℕ) (following : List ℕ) → EndsOtherwise following
    → EndsOtherwise (digits_onto k 10 false n following)
digits_end zero n following h = h
digits_end (suc k) n following h =
    go (n / 10 == 0) (digits_end k (n / 10) (digit_glyph false (n % 10) ∷ following) more)
  where
    more : EndsOtherwise (digit_glyph false (n % 10) ∷ following)
    more byte other = h (digit_glyph false (n % 10)) (digit_differs n)

    go : (is_last : Bool) → EndsOtherwise (digits_onto k 10 false (n / 10) (digit_glyph false (n % 10) ∷ following))
        → EndsOtherwise (if is_last then digit_glyph false (n % 10) ∷ following else
        digits_onto k 10 false (n / 10) (digit_glyph false (n % 10) ∷ following))
    go true further = more
    go false further = further

decimal_ends : (n : ℕ) → EndsOtherwise (decimal n)
unfolding digits
decimal_ends n = digits_end 64 n [] (λ byte other. other)

-- ---- lines

-- a line is clean whose last byte is `d`, with another before it than `a`
clean_line : (prefix : List ℕ) (x y : ℕ) (rest : List ℕ) → last_but_one x y rest ≢ 97 → last_of y rest ≡ 100
    → IsCleanLine (prefix ++ x ∷ y ∷ rest)
clean_line prefix x y rest other last = (not_bad, not_unread)
  where
    not_bad : ¬ EndsBad (prefix ++ x ∷ y ∷ rest)
    not_bad (before, same) =
        other (sym (last_but_one-append 0 0 prefix x y rest) ∙ ap (last_but_one 0 0) same
        ∙ last_but_one-append 0 0 before 32 98 (97 ∷ 100 ∷ []))

    not_unread : ¬ SaysUnread (prefix ++ x ∷ y ∷ rest)
    not_unread (number, same) =
        decimal_ends number 32 (omega arith) (sym (ap (last_of 0) same) ∙ last_of-append 0 prefix x (y ∷ rest) ∙ last)

-- ---- verdicts

-- a verdict's line, under the name of its predicate and another word
abbrev verdict_line : List ℕ → List ℕ → Verdict → List ℕ
verdict_line name word verdict = spaced (name ∷ word ∷ verdict_word verdict ∷ [])

possibly_clean : (name : List ℕ) (verdict : Verdict) → is_bad verdict ≡ false
    → IsCleanLine (verdict_line name (codes "possibly") verdict)
possibly_clean name Good e = clean_line name 32 112 (codes "ossibly good") (omega arith) refl
possibly_clean name Bad e = absurd (cc)
possibly_clean name Unchecked e = clean_line name 32 112 (codes "ossibly unchecked") (omega arith) refl

definitely_clean : (name : List ℕ) (verdict : Verdict) → is_bad verdict ≡ false
    → IsCleanLine (verdict_line name (codes "definitely") verdict)
definitely_clean name Good e = clean_line name 32 100 (codes "efinitely good") (omega arith) refl
definitely_clean name Bad e = absurd (cc)
definitely_clean name Unchecked e = clean_line name 32 100 (codes "efinitely unchecked") (omega arith) refl

possibly_not_bad : (name : List ℕ) (verdict : Verdict) → IsCleanLine (verdict_line name (codes "possibly") verdict)
    → is_bad verdict ≡ false
possibly_not_bad name Good h = refl
possibly_not_bad name Bad h =
    absurd (h.0 (name ++ codes " possibly", sym (append_assoc name (codes " possibly") (codes " bad"))))
possibly_not_bad name Unchecked h = refl

definitely_not_bad : (name : List ℕ) (verdict : Verdict) → IsCleanLine (verdict_line name (codes "definitely") verdict)
    → is_bad verdict ≡ false
definitely_not_bad name Good h = refl
definitely_not_bad name Bad h =
    absurd (h.0 (name ++ codes " definitely", sym (append_assoc name (codes " definitely") (codes " bad"))))
definitely_not_bad name Unchecked h = refl

checked_clean : (checked : Checked) → has_bad checked ≡ false → All IsCleanLine (checked_lines checked)
checked_clean checked e =
    let none = or_false (is_bad checked.possibly) (is_bad checked.definitely) e in
    All-cons IsCleanLine (verdict_line checked.name (codes "possibly") checked.possibly)
    (verdict_line checked.name (codes "definitely") checked.definitely ∷ [])
    (possibly_clean checked.name checked.possibly none.0)
    (All-cons IsCleanLine (verdict_line checked.name (codes "definitely") checked.definitely) []
    (definitely_clean checked.name checked.definitely none.1) (All-nil IsCleanLine))

all_clean : (verdicts : List Checked) → list_any has_bad verdicts ≡ false
    → All IsCleanLine (flat_map checked_lines verdicts)
all_clean [] e = All-nil IsCleanLine
all_clean (checked ∷ verdicts) e =
    let none = or_false (has_bad checked) (list_any has_bad verdicts) e in
    All-append IsCleanLine (checked_lines checked) (flat_map checked_lines verdicts) (checked_clean checked none.0)
    (all_clean verdicts none.1)

none_bad : (verdicts : List Checked) → All IsCleanLine (flat_map checked_lines verdicts)
    → list_any has_bad verdicts ≡ false
none_bad [] h = refl
none_bad (checked ∷ verdicts) h =
    let first = verdict_line checked.name (codes "possibly") checked.possibly in
    let second = verdict_line checked.name (codes "definitely") checked.definitely in
    let rest = flat_map checked_lines verdicts in
    let later : All IsCleanLine (second ∷ rest) = All-tail IsCleanLine first (second ∷ rest) h in
    let possibly : is_bad checked.possibly ≡ false =
    possibly_not_bad checked.name checked.possibly (All-head IsCleanLine first (second ∷ rest) h) in
    let definitely : is_bad checked.definitely ≡ false =
    definitely_not_bad checked.name checked.definitely (All-head IsCleanLine second rest later) in
    let others : list_any has_bad verdicts ≡ false = none_bad verdicts (All-tail IsCleanLine second rest later) in
    rw (possibly, definitely, others) refl

-- ---- findings

pub clean_is_clean_lem : CleanIsClean
clean_is_clean_lem (NotRead line) = (
  (λ e. absurd (cc)),
  (λ h. absurd ((All-head IsCleanLine
      (spaced (codes "report" ∷ codes "line" ∷ decimal line ∷ [])) [] h).1 (line, refl))),
)
clean_is_clean_lem (OfRefusal true) = (
  (λ e. All-cons IsCleanLine (codes "refused good") []
      (clean_line [] 114 101 (codes "fused good") (omega arith) refl) (All-nil IsCleanLine)),
  (λ h. refl),
)
clean_is_clean_lem (OfRefusal false) =
    ((λ e. absurd (cc)), (λ h. absurd ((All-head IsCleanLine (codes "refused bad") [] h).0 (codes "refused", refl))))
clean_is_clean_lem (OfSession true None) = (
  (λ e. absurd (cc)),
  (λ h. absurd ((All-head IsCleanLine (codes "names bad") []
      (All-tail IsCleanLine (codes "session good") (codes "names bad" ∷ []) h)).0 (codes "names", refl))),
)
clean_is_clean_lem (OfSession false None) = (
  (λ e. absurd (cc)),
  (λ h. absurd ((All-head IsCleanLine (codes "session bad") (codes "names bad" ∷ []) h).0
      (codes "session", refl))),
)
clean_is_clean_lem (OfSession false (Some verdicts)) = (
  (λ e. absurd (cc)),
  (λ h. absurd ((All-head IsCleanLine (codes "session bad") (flat_map checked_lines verdicts)
      h).0 (codes "session", refl))),
)
clean_is_clean_lem (OfSession true (Some verdicts)) = (
  (λ e. All-cons IsCleanLine (codes "session good") (flat_map checked_lines verdicts)
      (clean_line [] 115 101 (codes "ssion good") (omega arith) refl)
      (all_clean verdicts (not-true (list_any has_bad verdicts) e))),
  (λ h. ap not (none_bad verdicts (All-tail IsCleanLine (codes "session good") (flat_map checked_lines verdicts) h))),
)
