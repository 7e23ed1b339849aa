-- What a cut at the first LF does to lines and records, and how the line of a place goes on.
use Rattle.std.proofs.Common.{◌≡◌, ℕ, suc, ◌+◌, ◌-◌, ◌<◌, ◌≤◌, Bool, true, false, cond, List, [], ◌∷◌, ◌++◌, length, get_or, take, drop, map, refl, sym, ◌∙◌, ap, add-one, drop-cons, length-drop, length-take, length-append, arith, Option, Some, None, unwrap_or}
use Rattle.std.specs.Prelude.{◌==◌, ◌||◌}
use Rattle.std.proofs.lemmas.List.{take-append-drop, take_all, take_more, length_push}
use Rattle.std.proofs.lemmas.Bool.{eqb-true, eq-eqb}
use Rattle.std.proofs.lemmas.List.Sums.{count_by_more_no, count_by_more_yes, count_by-le-length}
use Rattle.memchr.specs.Find.{IsFirstByte, is_byte}
use Rattle.def_format.specs.Lines.{line, line_feed, has_line_feed, ended_lines, unended_line, as_line, all_lines, is_blank, numbered_from, line_number}
use Rattle.def_format.proofs.FeedPlaces.{both_false, no_feed, no_feed_below, not_true}
use Rattle.def_format.proofs.LineFacts.{or_false, no_ended_lines, unended-no_feed, has_feed-append, no_feed-unended, unended-append}
use Rattle.app_text.specs.Lines.{IsCut, without_cr, shown_line, records_from}

-- ---- where the first LF stands

pub cut_nowhere : (xs : List ℕ) → IsFirstByte (is_byte 10) xs None → IsCut xs xs None
cut_nowhere xs h = (refl, no_feed xs (λ j below e. h j (omega arith) below e))

pub cut_at : (xs : List ℕ) (k : ℕ) → IsFirstByte (is_byte 10) xs (Some k) → IsCut xs (take k xs)
    (Some (take (length xs - (k + 1)) (drop (k + 1) xs)))
cut_at xs k h =
    let below : k < length xs = h.0.high in
    let feed : get_or xs k 0 ≡ 10 = eqb-true (get_or xs k 0) 10 h.1 in
    let all : take (length xs - (k + 1)) (drop (k + 1) xs) ≡ drop (k + 1) xs =
    take_all (length xs - (k + 1)) (drop (k + 1) xs) (omega (arith, length-drop (k + 1) xs)) in (
      sym (take-append-drop k xs)
          ∙ ap (λ ys. take k xs ++ ys) (drop-cons xs k 0 below ∙ rw (feed, all, add-one k) refl),
      no_feed_below xs k (λ j under e. h.0.before j (omega arith) under e),
    )

-- ---- the lines around a cut

ended_lines-cut : (first after : List ℕ) → has_line_feed first ≡ false
    → ended_lines (first ++ 10 ∷ after) ≡ first ∷ ended_lines after
ended_lines-cut [] after h = refl
ended_lines-cut (x ∷ first) after h =
    let both = or_false (x == 10) (has_line_feed first) h in
    rw (both.0, ended_lines-cut first after both.1) refl

has_feed-cut : (first after : List ℕ) → has_line_feed (first ++ 10 ∷ after) ≡ true
has_feed-cut [] after = refl
has_feed-cut (x ∷ first) after = go (x == 10) (has_feed-cut first after)
  where
    go : (b : Bool) → has_line_feed (first ++ 10 ∷ after) ≡ true → (b || has_line_feed (first ++ 10 ∷ after)) ≡ true
    go true ih = refl
    go false ih = ih

unended-cut : (first after : List ℕ) → unended_line (first ++ 10 ∷ after) ≡ unended_line after
unended-cut [] after = refl
unended-cut (x ∷ first) after = rw (has_feed-cut (x ∷ first) after) (unended-cut first after)

pub all_lines-cut : (first after : List ℕ) → has_line_feed first ≡ false
    → all_lines (first ++ 10 ∷ after) ≡ first ∷ all_lines after
all_lines-cut first after h = rw (ended_lines-cut first after h, unended-cut first after) refl

pub all_lines-last : (bytes : List ℕ) → has_line_feed bytes ≡ false → all_lines bytes ≡ as_line bytes
all_lines-last bytes h = rw (no_ended_lines bytes h, unended-no_feed bytes h) refl

-- the first line, or nothing if there is none
pub first_line : (bytes first : List ℕ) (after : Option (List ℕ)) → IsCut bytes first after
    → get_or (all_lines bytes) 0 [] ≡ first
first_line bytes first None h = rw (all_lines-last bytes h.1) (go bytes first h.0)
  where
    go : (bytes first : List ℕ) → first ≡ bytes → get_or (as_line bytes) 0 [] ≡ first
    go [] first e = sym e
    go (x ∷ rest) first e = sym e
first_line bytes first (Some after) h = rw (h.0, all_lines-cut first after h.1) refl

pub later_line : (bytes first after : List ℕ) → IsCut bytes first (Some after) → (n : ℕ)
    → get_or (all_lines bytes) (suc n) [] ≡ get_or (all_lines after) n []
later_line bytes first after h n = rw (h.0, all_lines-cut first after h.1) refl

pub no_later_line : (bytes first : List ℕ) → IsCut bytes first None → (n : ℕ)
    → get_or (all_lines bytes) (suc n) [] ≡ []
no_later_line bytes first h n = rw (all_lines-last bytes h.1) (go bytes)
  where
    go : (bytes : List ℕ) → get_or (as_line bytes) (suc n) [] ≡ []
    go [] = refl
    go (x ∷ rest) = refl

-- ---- a CR at the end

pub without_cr-last : (xs : List ℕ) (x : ℕ) → without_cr (xs ++ x ∷ []) ≡ cond (x == 13) xs (xs ++ x ∷ [])
without_cr-last [] x = refl
without_cr-last (y ∷ []) x = go (x == 13)
  where
    go : (b : Bool) → (y ∷ cond b [] (x ∷ [])) ≡ cond b (y ∷ []) (y ∷ x ∷ [])
    go true = refl
    go false = refl
without_cr-last (y ∷ z ∷ rest) x = ap (λ ys. y ∷ ys) (without_cr-last (z ∷ rest) x) ∙ go (x == 13)
  where
    go : (b : Bool) → (y ∷ cond b (z ∷ rest) ((z ∷ rest) ++ x ∷ [])) ≡ cond b (y ∷ z ∷ rest) ((y ∷ z ∷ rest) ++ x ∷ [])
    go true = refl
    go false = refl

pub cr_last : (line rest : List ℕ) (last : ℕ) → line ≡ rest ++ last ∷ [] → last ≡ 13 → rest ≡ without_cr line
cr_last line rest last e same = rw (e, without_cr-last rest last, same) refl

pub other_last : (line rest : List ℕ) (last : ℕ) → line ≡ rest ++ last ∷ [] → (last ≡ 13 → ⊥) → line ≡ without_cr line
other_last line rest last e other =
    let none : (last == 13) ≡ false = not_true (last == 13) (λ same. other (eqb-true last 13 same)) in
    rw (e, without_cr-last rest last, none) refl

pub not_empty : (bytes : List ℕ) (b : Bool) → b ≡ (length bytes == 0) → b ≡ false → 0 < length bytes
not_empty [] b e f = absurd (cc)
not_empty (x ∷ bytes) b e f = omega arith

-- ---- records around a cut

record_here : (n : ℕ) (first : List ℕ) (others : List (List ℕ)) → is_blank first ≡ false
    → map shown_line (numbered_from n (first ∷ others)) ≡ line n (without_cr first)
    ∷ map shown_line (numbered_from (suc n) others)
record_here n first others e = rw e refl

blank_here : (n : ℕ) (first : List ℕ) (others : List (List ℕ)) → is_blank first ≡ true
    → map shown_line (numbered_from n (first ∷ others)) ≡ map shown_line (numbered_from (suc n) others)
blank_here n first others e = rw e refl

-- the lines of bytes that aren't empty
lines_around : (bytes first : List ℕ) (cut : Option (List ℕ)) → IsCut bytes first cut → 0 < length bytes
    → all_lines bytes ≡ first ∷ all_lines (unwrap_or cut [])
lines_around bytes first (Some after) h some = rw h.0 (all_lines-cut first after h.1)
lines_around [] first None h some = absurd (omega arith)
lines_around (x ∷ rest) first None h some = all_lines-last (x ∷ rest) h.1 ∙ ap (λ ys. ys ∷ []) (sym h.0)

pub shorter_rest : (bytes first : List ℕ) (cut : Option (List ℕ)) → IsCut bytes first cut → 0 < length bytes
    → length (unwrap_or cut []) + 1 ≤ length bytes
shorter_rest bytes first None h some = some
shorter_rest bytes first (Some after) h some =
    rw (h.0, length-append first (10 ∷ after)) (omega arith)

pub record_found : (n : ℕ) (bytes first : List ℕ) (cut : Option (List ℕ)) → IsCut bytes first cut → 0 < length bytes
    → is_blank first ≡ false → (number : ℕ) (shown rest : List ℕ) → number ≡ n → shown ≡ without_cr first
    → rest ≡ unwrap_or cut [] → records_from n bytes ≡ line number shown ∷ records_from (suc number) rest
record_found n bytes first cut h some e number shown rest en es er =
    rw (en, es, er, lines_around bytes first cut h some)
    (record_here n first (all_lines (unwrap_or cut [])) e)

pub blank_passed : (n : ℕ) (bytes first : List ℕ) (cut : Option (List ℕ)) → IsCut bytes first cut → 0 < length bytes
    → is_blank first ≡ true → (next : ℕ) (rest : List ℕ) → next ≡ suc n → rest ≡ unwrap_or cut []
    → records_from n bytes ≡ records_from next rest
blank_passed n bytes first cut h some e next rest en er =
    rw (en, er, lines_around bytes first cut h some) (blank_here n first (all_lines (unwrap_or cut [])) e)

-- ---- the line of a place

other_ends : (xs : List ℕ) (x : ℕ) → (x == 10) ≡ false → unended_line (xs ++ x ∷ []) ≡ unended_line xs ++ x ∷ []
other_ends xs x none =
    unended-append xs (x ∷ []) ∙ unended-no_feed (unended_line xs ++ x ∷ [])
    (has_feed-append (unended_line xs) (x ∷ []) ∙ both_false (has_line_feed (unended_line xs)) (has_line_feed (x ∷ []))
    (no_feed-unended xs) (both_false (x == 10) false none refl))

pub feed_line : (xs : List ℕ) (i : ℕ) → i < length xs → get_or xs i 0 ≡ 10
    → (line_number (take (i + 1) xs) ≡ line_number (take i xs) + 1)
    × (length (unended_line (take (i + 1) xs)) ≡ 0)
feed_line xs i below feed = (
  ap (λ n. n + 1) (count_by_more_yes (λ byte. byte == line_feed) xs i 0 below (eq-eqb (get_or xs i 0) 10 feed)),
  ap (λ ys. length (unended_line ys)) (take_more xs i 0 below) ∙ rw feed (ap length (unended-cut (take i xs) [])),
)

pub other_line : (xs : List ℕ) (i : ℕ) → i < length xs → (get_or xs i 0 ≡ 10 → ⊥)
    → (line_number (take (i + 1) xs) ≡ line_number (take i xs))
    × (length (unended_line (take (i + 1) xs)) ≡ length (unended_line (take i xs)) + 1)
other_line xs i below other =
    let none : (get_or xs i 0 == 10) ≡ false =
    not_true (get_or xs i 0 == 10) (λ e. other (eqb-true (get_or xs i 0) 10 e)) in (
      ap (λ n. n + 1) (count_by_more_no (λ byte. byte == line_feed) xs i 0 below none),
      ap (λ ys. length (unended_line ys)) (take_more xs i 0 below)
          ∙ ap length (other_ends (take i xs) (get_or xs i 0) none)
          ∙ length_push (unended_line (take i xs)) (get_or xs i 0),
    )

pub line_number-small : (xs : List ℕ) (i : ℕ) → line_number (take i xs) ≤ i + 1
line_number-small xs i =
    omega (arith, count_by-le-length (λ byte. byte == line_feed) (take i xs), length-take i xs)
