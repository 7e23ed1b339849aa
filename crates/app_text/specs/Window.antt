-- Which part of a line is shown around a place, and the caret below that place.
use Rattle.std.specs.Prelude.{◌≡◌, ℕ, ◌+◌, ◌-◌, ◌<◌, ◌≤◌, nat_lt, List, [], ◌∷◌, ◌++◌, length, drop, take, replicate, codes}
use Rattle.app_text.specs.Shown.{shown, columns, dots}

-- how many columns are shown before a place, and in all
abbrev pub before_limit : ℕ
before_limit = 45

abbrev pub window_limit : ℕ
window_limit = 70

-- as many of the first bytes as fit in this many columns
pub record IsFittingFirst (bytes : List ℕ) (limit count : ℕ) : Type 0 where
  pub within : count ≤ length bytes
  pub fits : columns (take count bytes) ≤ limit
  pub most : count < length bytes → limit < columns (take (count + 1) bytes)

-- the bytes without this many first ones are as many of the last bytes as fit in this many columns
pub record IsFittingLast (bytes : List ℕ) (limit skipped : ℕ) : Type 0 where
  pub within : skipped ≤ length bytes
  pub fits : columns (drop skipped bytes) ≤ limit
  pub most : 0 < skipped → limit < columns (drop (skipped - 1) bytes)

-- the first bytes of a line, as many as fit
abbrev pub start_text : List ℕ → ℕ → List ℕ
start_text line count =
    codes "    " ++ shown (take count line) ++ dots (nat_lt count (length line)) ++ 10 ∷ []

-- the bytes before a place without the first ones, and some of those from it on; below them a caret, before which stand
-- as many spaces as what is shown before the place takes columns
abbrev pub caret_text : List ℕ → List ℕ → ℕ → ℕ → List ℕ
caret_text before after skipped count =
    let start = codes "    " ++ dots (nat_lt 0 skipped) ++ shown (drop skipped before) in
    start ++ shown (take count after) ++ dots (nat_lt count (length after)) ++ 10 ∷ []
    ++ replicate (length start) 32 ++ 94 ∷ 10 ∷ []

-- the text shows a window of the line around the place
pub record ShowsPlace (before after text : List ℕ) : Type 0 where
  pub skipped : ℕ
  pub count : ℕ
  pub last_before : IsFittingLast before before_limit skipped
  pub first_after : IsFittingFirst after (window_limit - columns (drop skipped before)) count
  pub text_is : text ≡ caret_text before after skipped count

-- the text shows the start of the line
pub record ShowsStart (line text : List ℕ) : Type 0 where
  pub count : ℕ
  pub first : IsFittingFirst line window_limit count
  pub text_is : text ≡ start_text line count
