-- A report's text is UTF-8.
use Rattle.std.proofs.Common.{◌≡◌, ℕ, zero, suc, ◌+◌, ◌<◌, ◌/◌, ◌%◌, ◌==◌, Bool, true, cond, List, [], ◌∷◌, ◌++◌, length, map, take, get_or, false, refl, sym, subst, decimal, add-one, arith}
use Rattle.std.specs.Prelude.{codes, flat_map, string_bytes}
use Rattle.std.specs.List.{AllByRecursion, join_with_byte}
use Rattle.std.specs.Str.{IsUtf8}
use Rattle.std.specs.declared.alloc.Global.{Global}
use Rattle.std.specs.declared.string.String.{String}
use Rattle.std.proofs.lemmas.Str.{IsUtf8-append, IsUtf8-nil, IsUtf8-string_bytes}
use Rattle.std.proofs.lemmas.Bool.Decides.{nat_tests}
use Rattle.std.specs.Fmt.{digits, digits_onto, digit_glyph}
use Rattle.json.proofs.Printed.Utf8.{IsUtf8-are_ascii}
use Rattle.def_format.specs.Reports as reports
use Rattle.def_format.specs.Reports.{spaced, with_commas, possibly_words, path_text, definitely_words, answer_lines, place_text, refusal_words, report_lines, text_of_lines, report_text}
use Rattle.pd_report.specs.Steps.{name_at, names_at, names_view}
use Rattle.pd_report.specs.Views.{answer_view, definitely_view, possibly_view, named_places_view, refusal_view}
use Rattle.pd_report.specs.declared.answer.Answer.{Answer}
use Rattle.pd_report.specs.declared.refusal.Refusal.{Refusal}
use Rattle.pd_report.specs.declared.refusal.Refusal.TheVariants.{Spec, Predicate, Streams, Stream, Absent, Match, Cycle}
use Rattle.out_json.specs.Utf8Names.{PathIsUtf8, PathsAreUtf8}

-- ---- words

one_byte : (b : ℕ) → b < 128 → IsUtf8 (b ∷ [])
one_byte b small = IsUtf8-are_ascii (b ∷ []) (grind (arith, nat_tests))

digit : (d : ℕ) → d < 10 → IsUtf8 (digit_glyph false d ∷ [])
digit d small = one_byte (digit_glyph false d) (grind (arith, nat_tests))

either : (b : Bool) (xs ys : List ℕ) → IsUtf8 xs → IsUtf8 ys → IsUtf8 (cond b xs ys)
either true xs ys p q = p
either false xs ys p q = q

digits_before : (k n : ℕ) (others : List ℕ) → IsUtf8 others → IsUtf8 (digits_onto k 10 false n others)
digits_before zero n others h = h
digits_before (suc k) n others h =
    let more = IsUtf8-append (digit_glyph false (n % 10) ∷ []) others (digit (n % 10) (omega arith)) h in
    either (n / 10 == 0) (digit_glyph false (n % 10) ∷ others)
    (digits_onto k 10 false (n / 10) (digit_glyph false (n % 10) ∷ others)) more
    (digits_before k (n / 10) (digit_glyph false (n % 10) ∷ others) more)

number : (n : ℕ) → IsUtf8 (decimal n)
unfolding digits
number n = digits_before 64 n [] IsUtf8-nil

joined : (c : ℕ) → IsUtf8 (c ∷ []) → (words : List (List ℕ)) → AllByRecursion IsUtf8 words
    → IsUtf8 (join_with_byte c words)
joined c between [] h = IsUtf8-nil
joined c between (w ∷ []) h = h.0
joined c between (w ∷ v ∷ words) h =
    IsUtf8-append w (c ∷ join_with_byte c (v ∷ words)) h.0
    (IsUtf8-append (c ∷ []) (join_with_byte c (v ∷ words)) between (joined c between (v ∷ words) h.1))

line_of_words : (words : List (List ℕ)) → AllByRecursion IsUtf8 words → IsUtf8 (spaced words)
line_of_words words h = joined 32 (IsUtf8-are_ascii (32 ∷ []) refl) words h

listed : (words : List (List ℕ)) → AllByRecursion IsUtf8 words → IsUtf8 (with_commas words)
listed words h = joined 44 (IsUtf8-are_ascii (44 ∷ []) refl) words h

numbers : (ns : List ℕ) → AllByRecursion IsUtf8 (map decimal ns)
numbers [] = tt
numbers (n ∷ ns) = (number n, numbers ns)

-- ---- names

name_is_utf8 : (names : List (String Global)) (step : ℕ) → IsUtf8 (name_at (names_view names) step)
name_is_utf8 [] step = IsUtf8-nil
name_is_utf8 (name ∷ names) zero = IsUtf8-string_bytes name
name_is_utf8 (name ∷ names) (suc step) = name_is_utf8 names step

pub names_are_utf8 : (names : List (String Global)) (steps : List ℕ)
    → AllByRecursion IsUtf8 (names_at (names_view names) steps)
names_are_utf8 names [] = tt
names_are_utf8 names (step ∷ steps) = (name_is_utf8 names step, names_are_utf8 names steps)

path : (names : List (List ℕ)) → AllByRecursion IsUtf8 names → IsUtf8 (path_text names)
path [] h = IsUtf8-are_ascii (codes "-") refl
path (name ∷ names) h = listed (name ∷ names) h

-- ---- answers

possibly : (p : reports.Possibly) → AllByRecursion IsUtf8 (possibly_words p)
possibly (reports.Possibly.Yes counts) =
    (IsUtf8-are_ascii (codes "yes") refl, (listed (map decimal counts) (numbers counts), tt))
possibly reports.Possibly.No = (IsUtf8-are_ascii (codes "no") refl, tt)
possibly (reports.Possibly.Unknown level) = (IsUtf8-are_ascii (codes "unknown") refl, (number level, tt))

definitely : (d : reports.Definitely) → PathIsUtf8 d → AllByRecursion IsUtf8 (definitely_words d)
definitely (reports.Definitely.Yes level) h = (IsUtf8-are_ascii (codes "yes") refl, (number level, tt))
definitely (reports.Definitely.No names) h = (IsUtf8-are_ascii (codes "no") refl, (path names h, tt))
definitely (reports.Definitely.Unknown level) h = (IsUtf8-are_ascii (codes "unknown") refl, (number level, tt))

answers_lines : (answers : List Answer) → PathsAreUtf8 (map answer_view answers)
    → AllByRecursion IsUtf8 (flat_map answer_lines (map answer_view answers))
answers_lines [] h = tt
answers_lines (answer ∷ answers) h =
    let name = IsUtf8-string_bytes answer.name in
    let first = possibly (possibly_view answer.possibly) in
    let second = definitely (definitely_view answer.definitely) h.0 in (
      line_of_words
          (string_bytes answer.name ∷ codes "possibly" ∷ possibly_words (possibly_view answer.possibly))
          (name, (IsUtf8-are_ascii (codes "possibly") refl, first)),
      (
        line_of_words
            (string_bytes answer.name ∷ codes "definitely" ∷ definitely_words (definitely_view answer.definitely))
            (name, (IsUtf8-are_ascii (codes "definitely") refl, second)),
        answers_lines answers h.1,
      ),
    )

-- one answer more
more_paths : (answers : List Answer) (i : ℕ) (d : Answer) → i < length answers
    → PathsAreUtf8 (map answer_view (take i answers)) → PathIsUtf8 (definitely_view (get_or answers i d).definitely)
    → PathsAreUtf8 (map answer_view (take (suc i) answers))
more_paths [] i d lt before here = absurd (omega arith)
more_paths (answer ∷ answers) zero d lt before here = (here, tt)
more_paths (answer ∷ answers) (suc i) d lt before here =
    (before.0, more_paths answers i d (omega arith) before.1 here)

pub one_more_path : (answers : List Answer) (i : ℕ) (answer : Answer) → i < length answers
    → answer ≡ get_or answers i answer → PathsAreUtf8 (map answer_view (take i answers))
    → PathIsUtf8 (definitely_view answer.definitely) → PathsAreUtf8 (map answer_view (take (i + 1) answers))
one_more_path answers i answer lt is before here =
    subst (λ (n : ℕ). PathsAreUtf8 (map answer_view (take n answers))) (sym (add-one i))
    (more_paths answers i answer lt before
    (subst (λ (x : Answer). PathIsUtf8 (definitely_view x.definitely)) is here))

pub all_paths : (answers taken : List Answer) → PathsAreUtf8 (map answer_view taken) → taken ≡ answers
    → PathsAreUtf8 (map answer_view answers)
all_paths answers taken h whole = subst (λ (xs : List Answer). PathsAreUtf8 (map answer_view xs)) whole h

-- ---- refusals

place : (name : String Global) (n : ℕ) → IsUtf8 (string_bytes name ++ (codes "#" ++ decimal n))
place name n =
    IsUtf8-append (string_bytes name) (codes "#" ++ decimal n) (IsUtf8-string_bytes name)
    (IsUtf8-append (codes "#") (decimal n) (IsUtf8-are_ascii (codes "#") refl) (number n))

places : (list : List (String Global × ℕ)) → AllByRecursion IsUtf8 (map place_text (named_places_view list))
places [] = tt
places (p ∷ list) = (place p.0 p.1, places list)

refusal : (r : Refusal) → AllByRecursion IsUtf8 (refusal_words (refusal_view r))
refusal (Spec w) = (IsUtf8-are_ascii (codes "spec") refl, (IsUtf8-string_bytes w, tt))
refusal (Predicate k w at) = (
  IsUtf8-are_ascii (codes "predicate") refl,
  (
    number k,
    (
      IsUtf8-string_bytes w,
      (IsUtf8-are_ascii (codes "at") refl, (number at, tt)),
    ),
  ),
)
refusal Streams = (IsUtf8-are_ascii (codes "streams") refl, tt)
refusal (Stream stream line w) = (
  IsUtf8-are_ascii (codes "stream") refl,
  (
    number stream,
    (
      IsUtf8-are_ascii (codes "line") refl,
      (number line, (IsUtf8-string_bytes w, tt)),
    ),
  ),
)
refusal (Absent name) = (IsUtf8-are_ascii (codes "absent") refl, (IsUtf8-string_bytes name, tt))
refusal (Match w name n) = (IsUtf8-string_bytes w, (place name n, tt))
refusal (Cycle list) = (
  IsUtf8-are_ascii (codes "cycle") refl,
  (listed (map place_text (named_places_view list.items)) (places list.items), tt),
)

-- ---- the report

text_of : (lines : List (List ℕ)) → AllByRecursion IsUtf8 lines → IsUtf8 (text_of_lines lines)
text_of [] h = IsUtf8-nil
text_of (line ∷ lines) h =
    IsUtf8-append (line ++ 10 ∷ []) (text_of_lines lines)
    (IsUtf8-append line (10 ∷ []) h.0 (IsUtf8-are_ascii (10 ∷ []) refl)) (text_of lines h.1)

pub judged_is_utf8 : (processes events messages : ℕ) (answers : List Answer) → PathsAreUtf8 (map answer_view answers)
    → IsUtf8 (report_text (reports.Judged processes events messages (map answer_view answers)))
judged_is_utf8 processes events messages answers h =
    text_of (report_lines (reports.Judged processes events messages (map answer_view answers))) (
      line_of_words (codes "session" ∷ decimal processes ∷ codes "processes" ∷ decimal events ∷ codes "events"
          ∷ decimal messages ∷ codes "messages" ∷ []) (
            IsUtf8-are_ascii (codes "session") refl,
            (
              number processes,
              (
                IsUtf8-are_ascii (codes "processes") refl,
                (
                  number events,
                  (
                    IsUtf8-are_ascii (codes "events") refl,
                    (
                      number messages,
                      (IsUtf8-are_ascii (codes "messages") refl, tt),
                    ),
                  ),
                ),
              ),
            ),
          ),
      answers_lines answers h,
    )

pub refused_is_utf8 : (r : Refusal) → IsUtf8 (report_text (reports.Refused (refusal_view r)))
refused_is_utf8 r =
    text_of (report_lines (reports.Refused (refusal_view r))) (
      line_of_words (codes "refused" ∷ refusal_words (refusal_view r))
          (IsUtf8-are_ascii (codes "refused") refl, refusal r),
      tt,
    )
