-- A summary's text is one line.
use Rattle.std.proofs.Common.{◌≡◌, ◌<◌, ◌+◌, ◌/◌, ◌%◌, ℕ, Bool, true, false, cond, List, [], ◌∷◌, ◌++◌, refl, ◌∙◌, arith}
use Rattle.std.specs.Prelude.{◌==◌, ◌||◌, ◌^◌, not, nat_le, nat_lt, codes, decimal}
use Rattle.std.specs.Char.{digit_char}
use Rattle.std.specs.List.{list_all}
use Rattle.std.proofs.lemmas.Bool.{and_parts, ne_eqb}
use Rattle.std.proofs.lemmas.Bool.Decides.{nat_tests}
use Rattle.json.specs.Print.{escape, escape_byte, escape_letter, quoted}
use Rattle.serde_json.specs.Written.{comma_if, compact_text, members_text}
use Rattle.def_format.specs.Lines.{all_lines, ended_lines, has_line_feed, line_feed, unended_line}
use Rattle.def_format.proofs.LineFacts.{has_feed-append, or_false}
use Rattle.def_format.proofs.OneReport.{Lacks, decimal_in_word, in_word_lacks}
use Rattle.judge_summary.specs.Counts.{Counts, count_limit, fits, members_of}
use Rattle.judge_summary.specs.Summaries.{Summary, summary_data, summary_line, summary_text}

both : (a b : List ℕ) → has_line_feed a ≡ false → has_line_feed b ≡ false → has_line_feed (a ++ b) ≡ false
both a b p q = has_feed-append a b ∙ rw (p, q) refl

-- ---- escaped texts

letter_plain : (x : ℕ) → (escape_letter x == 10) ≡ false
letter_plain x =
    go ((x == 34) || (x == 92)) (x == 8) (x == 12) (x == 10) (x == 13) (x == 9) refl
  where
    go : (a b c d e f : Bool) → ((x == 34) || (x == 92)) ≡ a
        → (cond a x (cond b 98 (cond c 102 (cond d 110 (cond e 114 (cond f 116 0))))) == 10) ≡ false
    go true b c d e f is = ne_eqb x 10 (λ same. let no = rw same at is in cc)
    go false true c d e f is = refl
    go false false true d e f is = refl
    go false false false true e f is = refl
    go false false false false true f is = refl
    go false false false false false true is = refl
    go false false false false false false is = refl

digit_plain : (d : ℕ) → (digit_char d == 10) ≡ false
digit_plain d = go (nat_lt d 10)
  where
    go : (b : Bool) → (cond b (48 + d) (87 + d) == 10) ≡ false
    go true = ne_eqb (48 + d) 10 (λ e. omega (arith, e))
    go false = ne_eqb (87 + d) 10 (λ e. omega (arith, e))

byte_plain : (x : ℕ) → has_line_feed (escape_byte x) ≡ false
unfolding escape_byte
byte_plain x = go (nat_lt 0 (escape_letter x)) (nat_lt x 32) refl
  where
    go : (a b : Bool) → nat_lt x 32 ≡ b
        → has_line_feed (cond a (92 ∷ escape_letter x ∷ [])
        (cond b (92 ∷ 117 ∷ 48 ∷ 48 ∷ digit_char (x / 16) ∷ digit_char (x % 16) ∷ []) (x ∷ []))) ≡ false
    go true b e = rw (letter_plain x) refl
    go false true e = rw (digit_plain (x / 16), digit_plain (x % 16)) refl
    go false false e = rw (ne_eqb x 10 (λ same. let no = rw same at e in cc)) refl

escape_plain : (s : List ℕ) → has_line_feed (escape s) ≡ false
escape_plain [] = refl
escape_plain (x ∷ s) = both (escape_byte x) (escape s) (byte_plain x) (escape_plain s)

quoted_plain : (s : List ℕ) → has_line_feed (quoted s) ≡ false
quoted_plain s = both (escape s) (34 ∷ []) (escape_plain s) refl

-- ---- numbers

lacks_plain : (bytes : List ℕ) → Lacks 10 bytes → has_line_feed bytes ≡ false
lacks_plain [] h = refl
lacks_plain (x ∷ bytes) h =
    let parts = and_parts (not (x == 10)) (list_all (λ b. not (b == 10)) bytes) h in
    go (x == 10) parts.0 (lacks_plain bytes parts.1)
  where
    go : (b : Bool) → not b ≡ true → has_line_feed bytes ≡ false → (b || has_line_feed bytes) ≡ false
    go true apart rest = absurd (cc)
    go false apart rest = rest

number_plain : (n : ℕ) → nat_le n count_limit ≡ true → has_line_feed (decimal n) ≡ false
number_plain n few =
    let small : n < 2 ^ 64 = grind (arith, nat_tests) in
    lacks_plain (decimal n) (in_word_lacks 10 refl (decimal n) (decimal_in_word n small))

-- ---- the text

comma_plain : (later : Bool) → has_line_feed (comma_if later) ≡ false
comma_plain true = refl
comma_plain false = refl

members_plain : (later : Bool) (counts : Counts) → fits counts ≡ true
    → has_line_feed (members_text later (members_of counts)) ≡ false
members_plain later [] fit = refl
members_plain later ((text, n) ∷ counts) fit =
    let parts = and_parts (nat_le n count_limit) (fits counts) fit in
    both (comma_if later) (quoted text ++ 58 ∷ (decimal n ++ members_text true (members_of counts)))
    (comma_plain later)
    (both (quoted text) (58 ∷ (decimal n ++ members_text true (members_of counts))) (quoted_plain text)
    (both (decimal n) (members_text true (members_of counts)) (number_plain n parts.0)
    (members_plain true counts parts.1)))

-- two objects of counts as fields
line_plain : (summary : Summary) → fits summary.counts ≡ true → fits summary.failing ≡ true
    → has_line_feed (compact_text (summary_data summary)) ≡ false
line_plain summary counts failing =
    let first = members_text false (members_of summary.counts) in
    let second = members_text false (members_of summary.failing) in
    let last = quoted (codes "failing") ++ 58 ∷ 123 ∷ (second ++ 125 ∷ []) in
    both (quoted (codes "counts")) (58 ∷ 123 ∷ (first ++ 44 ∷ last)) (quoted_plain (codes "counts"))
    (both first (44 ∷ last) (members_plain false summary.counts counts)
    (both (quoted (codes "failing")) (58 ∷ 123 ∷ (second ++ 125 ∷ [])) (quoted_plain (codes "failing"))
    (both second (125 ∷ []) (members_plain false summary.failing failing) refl)))

-- ---- one line

or_true : (b : Bool) → (b || true) ≡ true
or_true true = refl
or_true false = refl

has_feed : (part : List ℕ) → has_line_feed (part ++ 10 ∷ []) ≡ true
has_feed [] = refl
has_feed (x ∷ part) = rw (has_feed part) (or_true (x == line_feed))

ended_part : (part : List ℕ) → has_line_feed part ≡ false → ended_lines (part ++ 10 ∷ []) ≡ part ∷ []
ended_part [] none = refl
ended_part (x ∷ part) none =
    let parts = or_false (x == line_feed) (has_line_feed part) none in rw (parts.0, ended_part part parts.1) refl

unended_part : (part : List ℕ) → unended_line (part ++ 10 ∷ []) ≡ []
unended_part [] = refl
unended_part (x ∷ part) = rw (has_feed (x ∷ part)) (unended_part part)

pub text_is_one_line : (summary : Summary) → fits summary.counts ≡ true → fits summary.failing ≡ true
    → all_lines (summary_text summary) ≡ summary_line summary ∷ []
unfolding summary_line
text_is_one_line summary counts failing =
    let line = compact_text (summary_data summary) in
    rw (ended_part line (line_plain summary counts failing), unended_part line) refl
